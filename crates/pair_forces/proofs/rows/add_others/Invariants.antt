use Rattle.std.proofs.Common.{◌≡◌, ◌+◌, All, map, take, get_or}
use Rattle.box_geo.specs.declared.atoms.Atom.{Atom}
use Rattle.serial_step.specs.Forces.{field_of}
use Rattle.pair_forces.specs.Adds.{AreTaken, FitWords}
use Rattle.pair_forces.specs.Rows.{IsRowOf, IsRowWithin}
use Rattle.pair_forces.proofs.rows.add_others.Given as goal

abbrev pub invariant-loop-other : goal.invariant-loop-other
invariant-loop-other g l = record {
  row : (d : Atom) → IsRowOf (field_of l.pairs.pairs) l.cell.sides l.own (map (λ q. get_or l.atoms q d) (take l.other-index l.others)) l.row;
  forces : AreTaken (field_of l.pairs.pairs) l.cell.sides l.atoms l.own (take l.other-index l.others) l.fn.forces l.forces;
  words : All FitWords l.forces;
  bound : IsRowWithin l.other-index l.row;
  steps : l.steps ≡ l.fn.steps + l.other-index;
}
