use Rattle.std.proofs.Common.{arith}
use Rattle.fx_num.proofs.DecimalLemmas.{digits_value_short}
use Rattle.fx_num.proofs.decimal.read_whole.Goals as goal

pub value-requires-clause-fits : goal.value-requires-clause-fits
value-requires-clause-fits c = omega (arith, digits_value_short 19 c.args.text.now c.if-not-is_whole.ensures.all c.if-text-gt-WHOLE_DIGITS.false)

pub overflow_cast-result : goal.overflow_cast-result
overflow_cast-result c = omega (arith, c.value.ensures, digits_value_short 19 c.args.text.now c.if-not-is_whole.ensures.all c.if-text-gt-WHOLE_DIGITS.false)

pub returns-clause-bound : goal.returns-clause-bound
returns-clause-bound c = omega (arith, c.value.ensures, digits_value_short 19 c.args.text.now c.if-not-is_whole.ensures.all c.if-text-gt-WHOLE_DIGITS.false)
