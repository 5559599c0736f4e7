use Rattle.std.proofs.Common.{◌≡◌}
use Rattle.data_file.specs.Tables.{masses_of}
use Rattle.data_file.proofs.read.masses_of.Given as goal

abbrev pub invariant-loop-kind : goal.invariant-loop-kind
invariant-loop-kind l = l.list ≡ masses_of l.kind l.masses
