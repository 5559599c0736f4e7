use Rattle.std.proofs.Common.{◌≡◌, drop, max}
use Rattle.std.specs.List.{fold}
use Rattle.box_geo.specs.declared.atoms.Atom.{Atom}
use Rattle.meaning.specs.Lattice.{greatest_id}
use Rattle.run_settings.proofs.lattice.greatest_id.Given as goal

abbrev pub invariant-loop-atom : goal.invariant-loop-atom
invariant-loop-atom l = fold (λ most (a : Atom). max most a.id) l.most (drop l.atom-index l.atoms) ≡ greatest_id l.atoms
