use Rattle.std.proofs.Common.{arith}
use Rattle.bonded.proofs.SignLemmas.{dot_is, three_fit, three_small, two_fit}
use Rattle.bonded.proofs.products.dot.Goals as goal

pub overflow_add-result : goal.overflow_add-result
overflow_add-result c = two_fit c.product_along.result c.product_along-2.result _ c.product_along.ensures.bound c.product_along-2.ensures.bound (omega arith)

pub overflow_add-result-2 : goal.overflow_add-result-2
overflow_add-result-2 c = three_fit c.product_along.result c.product_along-2.result c.product_along-3.result c.product_along.ensures.bound c.product_along-2.ensures.bound c.product_along-3.ensures.bound

pub returns-clause-is : goal.returns-clause-is
returns-clause-is c =
    dot_is c.args.d.now c.args.f.now c.product_along.result c.product_along-2.result c.product_along-3.result c.requires.d c.requires.f
    c.product_along.ensures.is c.product_along-2.ensures.is c.product_along-3.ensures.is c.product_along.ensures.bound c.product_along-2.ensures.bound c.product_along-3.ensures.bound

pub returns-clause-bound : goal.returns-clause-bound
returns-clause-bound c = three_small c.product_along.result c.product_along-2.result c.product_along-3.result c.product_along.ensures.bound c.product_along-2.ensures.bound c.product_along-3.ensures.bound
