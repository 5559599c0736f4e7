use Rattle.std.proofs.Common.{◌≡◌, ◌-◌, ◌++◌}
use Rattle.meaning.specs.Lattice.{unset_masses}
use Rattle.run_settings.proofs.lattice.unset_masses.Given as goal

abbrev pub invariant-loop-kind : goal.invariant-loop-kind
invariant-loop-kind l = l.mass ++ unset_masses (l.kinds - l._kind) ≡ unset_masses l.kinds
