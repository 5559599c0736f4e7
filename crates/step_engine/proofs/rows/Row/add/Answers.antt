use Rattle.step_engine.proofs.RowLemmas.{row_plus_is}
use Rattle.step_engine.proofs.rows.Row.add.Goals as goal

pub returns-clause-sums : goal.returns-clause-sums
returns-clause-sums c =
    row_plus_is c.args.self.now c.args.term.now c.sum-self.result c.from.result c.requires.room c.requires.energy c.requires.virial c.sum-self.ensures c.from.ensures
