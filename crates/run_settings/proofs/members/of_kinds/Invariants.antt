use Rattle.std.proofs.Common.{◌≡◌, ◌++◌, drop}
use Rattle.std.specs.List.{list_any}
use Rattle.box_geo.specs.declared.atoms.Atom.{Atom}
use Rattle.command_words.specs.declared.ranges.KindRange.{KindRange}
use Rattle.meaning.specs.MassesGroups.{has_kind}
use Rattle.run_settings.specs.Members.{ids_where}
use Rattle.run_settings.proofs.members.of_kinds.Given as goal

abbrev pub invariant-loop-atom : goal.invariant-loop-atom
invariant-loop-atom l =
    l.ids ++ ids_where (λ (a : Atom). list_any (λ (r : KindRange). has_kind r l.kinds a.kind) l.ranges) (drop l.atom-index l.atoms)
    ≡ ids_where (λ (a : Atom). list_any (λ (r : KindRange). has_kind r l.kinds a.kind) l.ranges) l.atoms
