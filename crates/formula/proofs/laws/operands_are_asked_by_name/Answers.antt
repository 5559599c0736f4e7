use Rattle.formula.proofs.AskLemmas.{value_by_list}
use Rattle.formula.proofs.laws.operands_are_asked_by_name.Goals as goal

pub returns : goal.returns
returns c = value_by_list
