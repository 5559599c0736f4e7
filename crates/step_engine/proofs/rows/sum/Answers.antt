use Rattle.step_engine.proofs.RowLemmas.{sum_is}
use Rattle.step_engine.proofs.rows.sum.Goals as goal

pub returns : goal.returns
returns c = sum_is c.args.a.now c.args.b.now c.requires.a c.requires.b
