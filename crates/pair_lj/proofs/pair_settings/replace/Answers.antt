use Rattle.pair_lj.specs.Pairs.{replaced}
use Rattle.pair_lj.proofs.Mapped.{mapped_more}
use Rattle.pair_lj.proofs.pair_settings.replace.Goals as goal

pub loop-i-preserved : goal.loop-i-preserved
loop-i-preserved c = mapped_more (replaced c.args.pair.now) c.args.pairs.now c.loop-i.pairs c.loop-i.i _ _ c.loop-i-test.true c.loop-i.invariant c.replaced.ensures
