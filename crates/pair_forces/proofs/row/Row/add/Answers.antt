use Rattle.pair_forces.proofs.TermLemmas.{row_plus_is}
use Rattle.pair_forces.proofs.row.Row.add.Goals as goal

pub returns-clause-sums : goal.returns-clause-sums
returns-clause-sums c =
    row_plus_is c.args.self.now c.args.term.now c.plus-self.result c.from.result c.requires.room c.requires.energy c.requires.virial c.plus-self.ensures.is c.from.ensures
