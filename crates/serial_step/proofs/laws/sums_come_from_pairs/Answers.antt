use Rattle.serial_step.proofs.ForceLemmas.{pair_energy_from_pairs, pair_virial_from_pairs, pair_energy_by_owners, pair_virial_by_owners}
use Rattle.serial_step.proofs.laws.sums_come_from_pairs.Goals as goal

pub returns-clause-energy : goal.returns-clause-energy
returns-clause-energy c = pair_energy_from_pairs

pub returns-clause-virial : goal.returns-clause-virial
returns-clause-virial c = pair_virial_from_pairs

pub returns-clause-energy_by_lists : goal.returns-clause-energy_by_lists
returns-clause-energy_by_lists c = λ field s atoms near lists. pair_energy_by_owners field s atoms near (λ pairs. pairs) lists

pub returns-clause-virial_by_lists : goal.returns-clause-virial_by_lists
returns-clause-virial_by_lists c = λ field s atoms near lists. pair_virial_by_owners field s atoms near (λ pairs. pairs) lists
