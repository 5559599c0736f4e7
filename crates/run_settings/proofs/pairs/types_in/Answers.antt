use Rattle.std.proofs.Common.{rules}
use Rattle.run_settings.proofs.Types.{types_step}
use Rattle.run_settings.proofs.pairs.types_in.Goals as goal

pub loop-kind-preserved : goal.loop-kind-preserved
loop-kind-preserved c = search (rules, types_step)
