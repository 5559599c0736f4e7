use Rattle.std.proofs.Common.{pos, ◌^◌, arith}
use Rattle.bonded.proofs.TurnLemmas.{turn_is, part_read}
use Rattle.bonded.proofs.angle.turn_along.Goals as goal

pub product-requires : goal.product-requires
product-requires c =
    (turn_is c.from.result c.apart.result c.part.result c.part-2.result c.args.k c.args.c c.args.r c.args.s c.args.x c.args.y c.requires.k c.from.ensures
    c.apart.ensures.is c.apart.ensures.bound c.part.ensures.bound c.part-2.ensures.bound
    (part_read c.part.result c.args.c c.args.x c.args.s c.requires.c c.requires.x c.part.ensures.is) (part_read c.part-2.result (pos (2 ^ 24)) c.args.y c.args.r (omega arith) c.requires.y c.part-2.ensures.is)).fits

pub returns-clause-is : goal.returns-clause-is
returns-clause-is c =
    (turn_is c.from.result c.apart.result c.part.result c.part-2.result c.args.k c.args.c c.args.r c.args.s c.args.x c.args.y c.requires.k c.from.ensures
    c.apart.ensures.is c.apart.ensures.bound c.part.ensures.bound c.part-2.ensures.bound
    (part_read c.part.result c.args.c c.args.x c.args.s c.requires.c c.requires.x c.part.ensures.is) (part_read c.part-2.result (pos (2 ^ 24)) c.args.y c.args.r (omega arith) c.requires.y c.part-2.ensures.is)).is c.product.result c.product.ensures.is

pub returns-clause-bound : goal.returns-clause-bound
returns-clause-bound c =
    (turn_is c.from.result c.apart.result c.part.result c.part-2.result c.args.k c.args.c c.args.r c.args.s c.args.x c.args.y c.requires.k c.from.ensures
    c.apart.ensures.is c.apart.ensures.bound c.part.ensures.bound c.part-2.ensures.bound
    (part_read c.part.result c.args.c c.args.x c.args.s c.requires.c c.requires.x c.part.ensures.is) (part_read c.part-2.result (pos (2 ^ 24)) c.args.y c.args.r (omega arith) c.requires.y c.part-2.ensures.is)).small c.product.result c.product.ensures.is
