use Rattle.weave_core.proofs.Machine.{order_free}
use Rattle.weave_core.proofs.laws.order_free.Goals as goal

pub returns : goal.returns
returns c = order_free
