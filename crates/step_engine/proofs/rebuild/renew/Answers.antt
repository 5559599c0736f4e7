use Rattle.step_engine.proofs.RebuildLemmas.{renew_more}
use Rattle.step_engine.proofs.rebuild.renew.Goals as goal

pub loop-i-preserved : goal.loop-i-preserved
loop-i-preserved c = renew_more c.args.atoms.now c.args.references.now c.loop-i.references c.loop-i.i _ c.loop-i-test.true c.requires c.loop-i.invariant
