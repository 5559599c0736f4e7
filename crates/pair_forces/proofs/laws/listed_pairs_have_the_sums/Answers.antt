use Rattle.pair_forces.proofs.LawLemmas.{energy_is, fault_is, virial_is}
use Rattle.pair_forces.proofs.laws.listed_pairs_have_the_sums.Goals as goal

pub returns-clause-energy : goal.returns-clause-energy
returns-clause-energy c = energy_is

pub returns-clause-virial : goal.returns-clause-virial
returns-clause-virial c = virial_is

pub returns-clause-fault : goal.returns-clause-fault
returns-clause-fault c = fault_is
