use Rattle.bonded.proofs.AngleLemmas.{force_read}
use Rattle.bonded.proofs.angle.force.Goals as goal

pub returns-clause-is : goal.returns-clause-is
returns-clause-is c =
    force_read c.force_over.result c.turn_along.result c.turn_along-2.result c.turn_along-3.result c.args.k c.args.c c.args.r c.args.s c.args.d.now c.args.e.now c.volume.result
    c.ranges.k c.ranges.c c.requires.d c.requires.e c.turn_along.ensures.is c.turn_along-2.ensures.is c.turn_along-3.ensures.is
    c.turn_along.ensures.bound c.turn_along-2.ensures.bound c.turn_along-3.ensures.bound c.volume.ensures.is c.force_over.ensures.is
