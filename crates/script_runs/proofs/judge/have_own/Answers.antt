use Rattle.std.proofs.Common.{◌+◌, rules}
use Rattle.pair_lj.specs.Pairs.{is_set}
use Rattle.pair_lj.proofs.TypeLemmas.{types_step}
use Rattle.script_runs.proofs.judge.have_own.Goals as goal

pub loop-kind-preserved : goal.loop-kind-preserved
loop-kind-preserved c = types_step (λ kind. is_set c.args.pairs.now kind kind) c.loop-kind.kind (c.args.kinds + 1) _ c.loop-kind-test.true (search rules) c.loop-kind.invariant
