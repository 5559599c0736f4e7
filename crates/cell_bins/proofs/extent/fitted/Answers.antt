use Rattle.std.proofs.Common.{arith}
use Rattle.cell_bins.proofs.ExtentLemmas.{greatest_some}
use Rattle.cell_bins.proofs.extent.fitted.Goals as goal

pub loop-x-smaller-then-x-z : goal.loop-x-smaller-then-x-z
loop-x-smaller-then-x-z c =
    let some = greatest_some c.loop-x.x c.loop-x.y c.loop-x.z c.args.most c.if-x-y.true c.if-x-z.true c.requires.most (omega (arith, c.loop-x-test.true, c.product.ensures)) in
    omega (arith, c.halved-x.ensures.less some)
