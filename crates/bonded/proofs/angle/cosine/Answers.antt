use Rattle.bonded.proofs.AngleLemmas.{cosine_read}
use Rattle.bonded.proofs.angle.cosine.Goals as goal

pub returns-clause-is : goal.returns-clause-is
returns-clause-is c =
    cosine_read c.in_range.result c.rdiv-ratio.result c.product.result c.from.result c.dot.result c.area.result c.args.d1.now c.args.d2.now c.args.r1 c.args.r2
    c.in_range.ensures.is c.in_range.ensures.bound c.rdiv-ratio.ensures.is c.rdiv-ratio.ensures.bound c.product.ensures.is c.from.ensures c.dot.ensures.is c.dot.ensures.bound c.area.ensures.is c.area.ensures.bound
