use Rattle.ghost_shell.proofs.SignLemmas.{below_is}
use Rattle.ghost_shell.proofs.halo.is_below.Goals as goal

pub returns : goal.returns
returns c =
    below_is c.args.high c.args.reach c.args.x c.args.shift c.from-3.result c.from-4.result c.from.result c.from-2.result
    c.ranges.high c.ranges.reach c.ranges.x c.ranges.shift c.from-3.ensures c.from-4.ensures c.from.ensures c.from-2.ensures
