use Rattle.std.proofs.Common.{refl, ap}
use Rattle.serial_step.specs.Forces.{force_of}
use Rattle.serial_step.proofs.ForceLemmas.{term_of-alone}
use Rattle.serial_step.proofs.laws.an_atom_has_no_term_with_itself.Goals as goal

pub returns-clause-term : goal.returns-clause-term
returns-clause-term c = term_of-alone

pub returns-clause-force : goal.returns-clause-force
returns-clause-force c = λ field s i. ap force_of (term_of-alone field s i i refl)
