use Rattle.fx_num.proofs.RootLemmas.{cbrt_above, cbrt_below, cbrt_is}
use Rattle.fx_num.proofs.roots.rcbrt.Goals as goal

pub returns-then-middle-a-clause-nearest : goal.returns-then-middle-a-clause-nearest
returns-then-middle-a-clause-nearest c =
    cbrt_above c.args.a c.whole_cbrt-root.result c.whole_cbrt-root.ensures.at_most c.whole_cbrt-root.ensures.above c.if-middle-a.true

pub returns-then-middle-a-clause-is : goal.returns-then-middle-a-clause-is
returns-then-middle-a-clause-is c = cbrt_is c.args.a _ (returns-then-middle-a-clause-nearest c)

pub returns-else-middle-a-clause-nearest : goal.returns-else-middle-a-clause-nearest
returns-else-middle-a-clause-nearest c =
    cbrt_below c.args.a c.whole_cbrt-root.result c.whole_cbrt-root.ensures.at_most c.whole_cbrt-root.ensures.above c.if-middle-a.false

pub returns-else-middle-a-clause-is : goal.returns-else-middle-a-clause-is
returns-else-middle-a-clause-is c = cbrt_is c.args.a _ (returns-else-middle-a-clause-nearest c)
