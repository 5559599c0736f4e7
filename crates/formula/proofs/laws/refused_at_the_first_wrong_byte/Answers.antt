use Rattle.formula.proofs.ReadLemmas.{refused_within, refused_before, refused_behind}
use Rattle.formula.proofs.laws.refused_at_the_first_wrong_byte.Goals as goal

pub returns-clause-within : goal.returns-clause-within
returns-clause-within c = refused_within

pub returns-clause-before : goal.returns-clause-before
returns-clause-before c = refused_before

pub returns-clause-behind : goal.returns-clause-behind
returns-clause-behind c = refused_behind
