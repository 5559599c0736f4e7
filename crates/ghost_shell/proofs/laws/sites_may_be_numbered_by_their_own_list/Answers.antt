use Rattle.ghost_shell.proofs.NumberLemmas.{each_numbered_once, own_numbers}
use Rattle.ghost_shell.proofs.laws.sites_may_be_numbered_by_their_own_list.Goals as goal

pub returns-clause-apart : goal.returns-clause-apart
returns-clause-apart c = own_numbers

pub returns-clause-once : goal.returns-clause-once
returns-clause-once c = λ counts s atoms reach shells lists some long room act inside rise found listed. each_numbered_once counts s atoms reach shells lists some long room act inside rise found listed
