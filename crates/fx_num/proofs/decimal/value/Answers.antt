use Rattle.std.proofs.Common.{arith}
use Rattle.fx_num.proofs.DecimalLemmas.{next_digit}
use Rattle.fx_num.proofs.decimal.value.Goals as goal

pub overflow_mul-n : goal.overflow_mul-n
overflow_mul-n c = omega (arith, next_digit c.loop-b.n c.loop-b.b-index c.args.digits.now c.loop-b-test.true c.requires.all (omega (arith, c.loop-b.invariant, c.requires.fits)))

pub overflow_add-n : goal.overflow_add-n
overflow_add-n c = omega (arith, c.from.ensures, next_digit c.loop-b.n c.loop-b.b-index c.args.digits.now c.loop-b-test.true c.requires.all (omega (arith, c.loop-b.invariant, c.requires.fits)))
