use Rattle.ghost_shell.proofs.ListsLemmas.{each_pair_once}
use Rattle.ghost_shell.proofs.PairLemmas.{near_atoms}
use Rattle.ghost_shell.proofs.laws.the_lists_of_all_bricks_have_each_near_pair_once.Goals as goal

pub returns-clause-atoms : goal.returns-clause-atoms
returns-clause-atoms c = λ s reach atoms d. near_atoms s reach atoms d

pub returns-clause-once : goal.returns-clause-once
returns-clause-once c = λ counts s atoms reach shells lists some long room act inside rise found listed. each_pair_once counts s atoms reach some long room act inside shells lists rise found listed
