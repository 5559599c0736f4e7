use Rattle.std.proofs.Common.{◌^◌, [], ◌∷◌, pos, take, All}
use Rattle.step_engine.specs.Ranges.{IsMovable, IsPlaced}
use Rattle.part_tests.proofs.engines.are_sound.Given as goal

abbrev pub invariant-loop-atom : goal.invariant-loop-atom
invariant-loop-atom l = record {
  placed : All (IsPlaced l.pairs l.cell.sides) (take l.atom-index l.atoms);
  movable : All (IsMovable (pos (2 ^ 24) ∷ [])) (take l.atom-index l.atoms);
}
