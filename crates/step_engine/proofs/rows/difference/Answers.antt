use Rattle.step_engine.proofs.RowLemmas.{difference_is}
use Rattle.step_engine.proofs.rows.difference.Goals as goal

pub returns : goal.returns
returns c = difference_is c.args.a.now c.args.b.now c.requires.a c.requires.b
