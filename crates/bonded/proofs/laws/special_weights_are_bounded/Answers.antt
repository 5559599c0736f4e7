use Rattle.bonded.proofs.PathLemmas.{bounded_weight}
use Rattle.bonded.proofs.laws.special_weights_are_bounded.Goals as goal

pub returns : goal.returns
returns c = bounded_weight
