use Rattle.cell_bins.specs.Bins.{sites_of}
use Rattle.half_list.specs.Rows.{HasRows}
use Rattle.half_list.proofs.rows.rows.Given as goal

abbrev pub invariant-loop-site : goal.invariant-loop-site
invariant-loop-site l = HasRows l.reach l.own (sites_of l.bins) l.site-index l.starts.items l.places.items
