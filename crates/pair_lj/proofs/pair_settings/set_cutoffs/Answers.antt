use Rattle.pair_lj.specs.Pairs.{with_cutoff}
use Rattle.pair_lj.proofs.Mapped.{mapped_more}
use Rattle.pair_lj.proofs.pair_settings.set_cutoffs.Goals as goal

pub loop-i-preserved : goal.loop-i-preserved
loop-i-preserved c = mapped_more (with_cutoff c.args.cutoff.now) c.args.pairs.now c.loop-i.pairs c.loop-i.i _ _ c.loop-i-test.true c.loop-i.invariant c.with_cutoff.ensures
