use Rattle.std.proofs.Common.{◌≡◌, ◌++◌, take}
use Rattle.half_list.specs.Neighbours.{neighbours}
use Rattle.half_list.proofs.rows.push_cell.Given as goal

abbrev pub invariant-loop-site : goal.invariant-loop-site
invariant-loop-site l = l.places.items ≡ l.fn.places.items ++ neighbours l.reach l.own (take l.site-index l.cell)
