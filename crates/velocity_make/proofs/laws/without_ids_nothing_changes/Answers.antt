use Rattle.velocity_make.proofs.ListLemmas.{changed_none, drawn_none, fast_none}
use Rattle.velocity_make.proofs.laws.without_ids_nothing_changes.Goals as goal

pub returns-clause-draws : goal.returns-clause-draws
returns-clause-draws c = drawn_none

pub returns-clause-changes : goal.returns-clause-changes
returns-clause-changes c = changed_none

pub returns-clause-speeds : goal.returns-clause-speeds
returns-clause-speeds c = fast_none
