use Rattle.std.proofs.Common.{◌^◌, arith}
use Rattle.velocity_make.proofs.CastLemmas.{root_most}
use Rattle.velocity_make.proofs.temperature.root.Goals as goal

pub returns-clause-bound : goal.returns-clause-bound
returns-clause-bound c = root_most c.args.a c.rsqrt.result (2 ^ 52) c.rsqrt.ensures.nearest (omega (arith, c.requires))
