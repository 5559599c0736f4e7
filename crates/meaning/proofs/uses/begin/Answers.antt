use Rattle.meaning.specs.Uses.{begun_at}
use Rattle.meaning.proofs.Mapped.{mapped_more}
use Rattle.meaning.proofs.uses.begin.Goals as goal

pub loop-i-preserved : goal.loop-i-preserved
loop-i-preserved c = mapped_more (begun_at c.args.name.now) c.args.uses.now c.loop-i.uses c.loop-i.i c.index-uses-i.result _ c.loop-i-test.true c.loop-i.invariant c.begin_at.ensures
