use Rattle.serial_step.proofs.ForceLemmas.{brought-flat_map}
use Rattle.serial_step.proofs.laws.what_pairs_bring_adds_up.Goals as goal

pub returns : goal.returns
returns c = λ field s component word lists k. brought-flat_map field s component word (λ pairs. pairs) lists k
