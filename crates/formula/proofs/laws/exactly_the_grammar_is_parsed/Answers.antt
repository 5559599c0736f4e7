use Rattle.formula.proofs.TreeLemmas.{formula_parsed, longer_refused, parsed_is_formula}
use Rattle.formula.proofs.laws.exactly_the_grammar_is_parsed.Goals as goal

pub returns-clause-sound : goal.returns-clause-sound
returns-clause-sound c = parsed_is_formula

pub returns-clause-complete : goal.returns-clause-complete
returns-clause-complete c = formula_parsed

pub returns-clause-too_long : goal.returns-clause-too_long
returns-clause-too_long c = longer_refused
