use Rattle.std.proofs.Common.{◌≡◌, map, take}
use Rattle.rank_grid.specs.Bricks.{owner}
use Rattle.rank_grid.proofs.grid.Grid.owners.Given as goal

abbrev pub invariant-loop-atom : goal.invariant-loop-atom
invariant-loop-atom l = l.list.items ≡ map (λ a. owner l.self.counts l.self.cell.sides a.x) (take l.atom-index l.atoms)
