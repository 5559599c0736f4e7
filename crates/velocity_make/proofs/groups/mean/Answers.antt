use Rattle.std.proofs.Common.{◌^◌, arith}
use Rattle.velocity_make.proofs.CastLemmas.{kept64}
use Rattle.velocity_make.proofs.groups.mean.Goals as goal

pub returns-clause-slow : goal.returns-clause-slow
returns-clause-slow c = (
  kept64 c.velocity_of.result (2 ^ 32) c.velocity_of.ensures.slow (omega arith),
  kept64 c.velocity_of-2.result (2 ^ 32) c.velocity_of-2.ensures.slow (omega arith),
  kept64 c.velocity_of-3.result (2 ^ 32) c.velocity_of-3.ensures.slow (omega arith),
)
