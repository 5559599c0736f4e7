use Rattle.std.proofs.Common.{unsigned_abs, rules}
use Rattle.cell_bins.specs.Bins.{sites_of}
use Rattle.half_list.proofs.RowLemmas.{list_rows}
use Rattle.half_list.proofs.lists.List.build.Goals as goal

pub returns-clause-rows : goal.returns-clause-rows
returns-clause-rows c =
    list_rows _ (unsigned_abs c.args.reach) c.as_slice.result.now c.args.own.now c.args.all.now (sites_of c.in_ok-bins.bins) c.in_ok-starts.starts.items c.in_ok-starts.places.items
    c.in_ok-starts.ensures c.as_slice.ensures (search rules) c.in_ok-bins.ensures.sites
