use Rattle.serial_step.proofs.ForceLemmas.{force_from_pairs}
use Rattle.serial_step.proofs.laws.a_force_comes_from_pairs.Goals as goal

pub returns : goal.returns
returns c = force_from_pairs
