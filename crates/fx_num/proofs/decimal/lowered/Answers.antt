use Rattle.std.proofs.Common.{arith}
use Rattle.fx_num.proofs.DecimalLemmas.{ten-pow-le, ten-pow_pos, rounds_to_zero}
use Rattle.fx_num.proofs.decimal.lowered.Goals as goal

pub returns-then-tens-gt37 : goal.returns-then-tens-gt37
returns-then-tens-gt37 c = rounds_to_zero c.args.n c.args.tens c.requires c.if-tens-gt37.true

pub pow-requires : goal.pow-requires
pow-requires c = omega (arith, ten-pow-le c.args.tens 37 c.if-tens-gt37.false)

pub nearest-requires-clause-positive : goal.nearest-requires-clause-positive
nearest-requires-clause-positive c = omega (arith, ten-pow_pos c.args.tens)

pub nearest-requires-clause-divisor : goal.nearest-requires-clause-divisor
nearest-requires-clause-divisor c = omega (arith, ten-pow-le c.args.tens 37 c.if-tens-gt37.false)
