use Rattle.serial_step.proofs.ForceLemmas.{x_from_pairs, y_from_pairs, z_from_pairs}
use Rattle.serial_step.proofs.laws.forces_come_from_pairs.Goals as goal

pub returns-clause-x : goal.returns-clause-x
returns-clause-x c = x_from_pairs

pub returns-clause-y : goal.returns-clause-y
returns-clause-y c = y_from_pairs

pub returns-clause-z : goal.returns-clause-z
returns-clause-z c = z_from_pairs
