use Rattle.ghost_shell.proofs.SignLemmas.{above_is}
use Rattle.ghost_shell.proofs.halo.is_above.Goals as goal

pub returns : goal.returns
returns c =
    above_is c.args.low c.args.reach c.args.x c.args.shift c.from.result c.from-2.result c.from-3.result c.from-4.result
    c.ranges.low c.ranges.reach c.ranges.x c.ranges.shift c.from.ensures c.from-2.ensures c.from-3.ensures c.from-4.ensures
