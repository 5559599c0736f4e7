use Rattle.velocity_make.proofs.OrderLemmas.{created_permutes}
use Rattle.velocity_make.proofs.laws.order_does_not_matter.Goals as goal

pub returns : goal.returns
returns c = created_permutes
