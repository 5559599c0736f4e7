use Rattle.bonded.proofs.PathLemmas.{either_weight}
use Rattle.bonded.proofs.laws.special_weights_have_no_order.Goals as goal

pub returns : goal.returns
returns c = either_weight
