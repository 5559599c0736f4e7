use Rattle.std.proofs.Common.{◌≡◌, ◌++◌, drop}
use Rattle.box_geo.specs.declared.atoms.Atom.{Atom}
use Rattle.regions_groups.specs.Regions.{holds}
use Rattle.run_settings.specs.Members.{ids_where}
use Rattle.run_settings.proofs.members.held.Given as goal

abbrev pub invariant-loop-atom : goal.invariant-loop-atom
invariant-loop-atom l =
    (l.test ≡ l.initial.test)
    × (l.ids ++ ids_where (λ (a : Atom). holds l.test.regions l.test.name a.x) (drop l.atom-index l.atoms)
    ≡ ids_where (λ (a : Atom). holds l.initial.test.regions l.initial.test.name a.x) l.atoms)
