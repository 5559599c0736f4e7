use Rattle.serial_step.proofs.ForceLemmas.{terms_fault_from_pairs, terms_fault_by_owners}
use Rattle.serial_step.proofs.laws.the_fault_comes_from_pairs.Goals as goal

pub returns-clause-pairs : goal.returns-clause-pairs
returns-clause-pairs c = terms_fault_from_pairs

pub returns-clause-by_lists : goal.returns-clause-by_lists
returns-clause-by_lists c = λ field s atoms near lists. terms_fault_by_owners field s atoms near (λ pairs. pairs) lists
