use Rattle.step_engine.proofs.PairLemmas.{sums_plus_is}
use Rattle.step_engine.proofs.pairs.Sums.add.Goals as goal

pub returns-clause-sums : goal.returns-clause-sums
returns-clause-sums c = sums_plus_is c.args.row.now c.args.self.now c.min-self.result c.requires.row c.requires.room c.min-self.ensures
