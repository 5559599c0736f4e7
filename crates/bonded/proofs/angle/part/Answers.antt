use Rattle.bonded.proofs.TurnLemmas.{part_is}
use Rattle.bonded.proofs.angle.part.Goals as goal

pub product-requires-2 : goal.product-requires-2
product-requires-2 c =
    (part_is c.product.result c.from.result c.from-2.result c.args.c c.args.x c.args.s c.requires.c c.requires.x c.requires.s c.from.ensures c.from-2.ensures c.product.ensures.is).fits

pub returns-clause-is : goal.returns-clause-is
returns-clause-is c =
    (part_is c.product.result c.from.result c.from-2.result c.args.c c.args.x c.args.s c.requires.c c.requires.x c.requires.s c.from.ensures c.from-2.ensures c.product.ensures.is).is c.product-2.result c.product-2.ensures.is

pub returns-clause-bound : goal.returns-clause-bound
returns-clause-bound c =
    (part_is c.product.result c.from.result c.from-2.result c.args.c c.args.x c.args.s c.requires.c c.requires.x c.requires.s c.from.ensures c.from-2.ensures c.product.ensures.is).small c.product-2.result c.product-2.ensures.is
