use Rattle.std.proofs.Common.{◌≡◌, drop, max}
use Rattle.std.specs.List.{fold}
use Rattle.box_geo.specs.declared.atoms.Bond.{Bond}
use Rattle.data_text.specs.DataText.{bond_types}
use Rattle.data_text.proofs.header.bond_types.Given as goal

abbrev pub invariant-loop-bond : goal.invariant-loop-bond
invariant-loop-bond l = fold (λ most (b : Bond). max most b.kind) l.most (drop l.bond-index l.bonds) ≡ bond_types l.bonds
