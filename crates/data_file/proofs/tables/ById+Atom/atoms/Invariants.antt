use Rattle.std.proofs.Common.{◌≡◌, ◌++◌, map}
use Rattle.data_file.specs.Tables.{with_velocity}
use Rattle.data_file.proofs.tables.ById+Atom.atoms.Given as goal

abbrev pub invariant-loop-id : goal.invariant-loop-id
invariant-loop-id l = l.atoms ++ map (with_velocity l.velocities) l.id-iterator ≡ map (with_velocity l.velocities) l.self
