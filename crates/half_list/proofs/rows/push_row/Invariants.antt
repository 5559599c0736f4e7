use Rattle.std.proofs.Common.{◌≡◌, ◌++◌}
use Rattle.cell_bins.specs.Around.{cells_left, joined}
use Rattle.half_list.specs.Neighbours.{neighbours}
use Rattle.half_list.proofs.rows.push_row.Given as goal

abbrev pub invariant-loop-cell : goal.invariant-loop-cell
invariant-loop-cell l =
    l.places.items ++ neighbours l.reach l.own (joined (cells_left l.cell-iterator))
    ≡ l.fn.places.items ++ neighbours l.reach l.own (joined (cells_left l.initial.cell-iterator))
