use Rattle.std.proofs.Common.{sym}
use Rattle.fx_num.proofs.RootLemmas.{sqrt_above, sqrt_below, sqrt_is}
use Rattle.fx_num.proofs.roots.rsqrt.Goals as goal

pub returns-then-a-wide-clause-nearest : goal.returns-then-a-wide-clause-nearest
returns-then-a-wide-clause-nearest c =
    sqrt_above c.args.a c.whole_sqrt-root.result c.whole_sqrt-root.ensures.at_most c.whole_sqrt-root.ensures.above (rw (sym c.from-wide.ensures) c.if-a-wide.true)

pub returns-then-a-wide-clause-is : goal.returns-then-a-wide-clause-is
returns-then-a-wide-clause-is c = sqrt_is c.args.a _ (returns-then-a-wide-clause-nearest c)

pub returns-else-a-wide-clause-nearest : goal.returns-else-a-wide-clause-nearest
returns-else-a-wide-clause-nearest c =
    sqrt_below c.args.a c.whole_sqrt-root.result c.whole_sqrt-root.ensures.at_most c.whole_sqrt-root.ensures.above (rw (sym c.from-wide.ensures) c.if-a-wide.false)

pub returns-else-a-wide-clause-is : goal.returns-else-a-wide-clause-is
returns-else-a-wide-clause-is c = sqrt_is c.args.a _ (returns-else-a-wide-clause-nearest c)
