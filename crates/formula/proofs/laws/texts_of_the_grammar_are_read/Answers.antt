use Rattle.formula.proofs.TreeLemmas.{formula_read, one_tree}
use Rattle.formula.proofs.laws.texts_of_the_grammar_are_read.Goals as goal

pub returns-clause-is_read : goal.returns-clause-is_read
returns-clause-is_read c = formula_read

pub returns-clause-only : goal.returns-clause-only
returns-clause-only c = one_tree
