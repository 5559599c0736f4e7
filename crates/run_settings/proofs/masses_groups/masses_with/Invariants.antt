use Rattle.std.proofs.Common.{◌≡◌, ◌+◌, ◌++◌, drop, length}
use Rattle.meaning.specs.MassesGroups.{masses_from}
use Rattle.run_settings.proofs.masses_groups.masses_with.Given as goal

abbrev pub invariant-loop-mass : goal.invariant-loop-mass
invariant-loop-mass l =
    (l.kind ≡ l.mass-index + 1)
    × (l.masses ++ masses_from l.setting (length l.old) l.kind (drop l.mass-index l.old) ≡ masses_from l.setting (length l.old) 1 l.old)
