use Rattle.serial_step.proofs.ForceLemmas.{all_pairs}
use Rattle.serial_step.proofs.laws.all_pairs_are_near_pairs.Goals as goal

pub returns : goal.returns
returns c = all_pairs
