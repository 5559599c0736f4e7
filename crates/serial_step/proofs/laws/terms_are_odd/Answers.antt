use Rattle.serial_step.specs.Forces.{term_of}
use Rattle.serial_step.proofs.ForceLemmas.{term_of-opposite, force_of-opposite, energy_of-opposite, virial_of-opposite}
use Rattle.serial_step.proofs.laws.terms_are_odd.Goals as goal

pub returns-clause-kind : goal.returns-clause-kind
returns-clause-kind c = term_of-opposite

pub returns-clause-force : goal.returns-clause-force
returns-clause-force c = λ field s i j fair edges. force_of-opposite (term_of field s i j) (term_of field s j i) (term_of-opposite field s i j fair edges)

pub returns-clause-energy : goal.returns-clause-energy
returns-clause-energy c = λ field s i j fair edges. energy_of-opposite (term_of field s i j) (term_of field s j i) (term_of-opposite field s i j fair edges)

pub returns-clause-virial : goal.returns-clause-virial
returns-clause-virial c = λ field s i j fair edges. virial_of-opposite (term_of field s i j) (term_of field s j i) (term_of-opposite field s i j fair edges)
