use Rattle.std.proofs.Common.{arith}
use Rattle.fx_num.proofs.DecimalLemmas.{digits_value_short}
use Rattle.fx_num.proofs.decimal.read_exponent.Goals as goal

pub value-size-requires-clause-fits : goal.value-size-requires-clause-fits
value-size-requires-clause-fits c = omega (arith, digits_value_short 3 _ c.if-not-is_exponent.ensures.all c.if-not-is_exponent.ensures.bound)

pub overflow_cast-size : goal.overflow_cast-size
overflow_cast-size c = omega (arith, c.value-size.ensures, digits_value_short 3 _ c.if-not-is_exponent.ensures.all c.if-not-is_exponent.ensures.bound)

pub invariant_of-result-in-101 : goal.invariant_of-result-in-101
invariant_of-result-in-101 c = omega (arith, c.value-size.ensures, digits_value_short 3 _ c.if-not-is_exponent.ensures.all c.if-not-is_exponent.ensures.bound)
