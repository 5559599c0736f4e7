use Rattle.std.proofs.Common.{◌≡◌, length}
use Rattle.cell_bins.specs.Around.{cells_left, places_left}
use Rattle.cell_bins.proofs.around.AroundIterator.next.Given as goal

abbrev pub invariant-loop-first : goal.invariant-loop-first
invariant-loop-first l = places_left l.self ≡ places_left l.fn.self

abbrev pub decreases-loop-first : goal.decreases-loop-first
decreases-loop-first l = length (cells_left l.self.cells)
