use Rattle.std.proofs.Common.{◌≡◌, ◌+◌, ◌-◌}
use Rattle.std.specs.List.{list_all}
use Rattle.pair_lj.specs.Pairs.{is_set, types_from}
use Rattle.script_runs.proofs.judge.have_own.Given as goal

abbrev pub invariant-loop-kind : goal.invariant-loop-kind
invariant-loop-kind l = list_all (λ kind. is_set l.pairs kind kind) (types_from l.kind ((l.kinds + 1) - l.kind)) ≡ list_all (λ kind. is_set l.pairs kind kind) (types_from 1 l.kinds)
