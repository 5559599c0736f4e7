use Rattle.fx_num.proofs.DecimalLemmas.{out_of_range}
use Rattle.std.proofs.Common.{arith}
use Rattle.fx_num.proofs.decimal.raised.Goals as goal

pub returns-then-tens-gt11 : goal.returns-then-tens-gt11
returns-then-tens-gt11 c = out_of_range c.args.n c.args.tens (omega arith) c.if-tens-gt11.true
