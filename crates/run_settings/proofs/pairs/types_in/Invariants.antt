use Rattle.std.proofs.Common.{◌≡◌, ◌-◌, ◌++◌}
use Rattle.pair_lj.specs.Pairs.{types_from}
use Rattle.run_settings.proofs.pairs.types_in.Given as goal

abbrev pub invariant-loop-kind : goal.invariant-loop-kind
invariant-loop-kind l = l.types ++ types_from l.kind (l.end - l.kind) ≡ types_from l.range.first (l.end - l.range.first)
