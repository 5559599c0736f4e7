use Rattle.std.proofs.Common.{◌≡◌, take}
use Rattle.meaning.specs.MassesGroups.{ids_of}
use Rattle.meaning.proofs.masses_groups.ids_of.Given as goal

abbrev pub invariant-loop-atom : goal.invariant-loop-atom
invariant-loop-atom l = l.ids ≡ ids_of (take l.atom-index l.atoms)
