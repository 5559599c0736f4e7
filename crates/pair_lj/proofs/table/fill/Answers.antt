use Rattle.std.proofs.Common.{refl, arith}
use Rattle.pair_lj.proofs.PlaceLemmas.{all_filled, first_unset}
use Rattle.pair_lj.proofs.table.fill.Goals as goal

pub returns-in-None-clause-unset : goal.returns-in-None-clause-unset
returns-in-None-clause-unset c =
    first_unset c.loop-n.n c.args.kinds _ _ c.args.pairs.now c.loop-n.places.items c.requires.few refl refl c.if-i-j.true c.if-j-kinds.true c.in-None.ensures c.loop-n.invariant.filled

pub returns-clause-filled : goal.returns-clause-filled
returns-clause-filled c = all_filled c.loop-n.n c.args.kinds c.args.pairs.now c.loop-n.places.items c.requires.few (omega arith) c.loop-n.invariant.filled
