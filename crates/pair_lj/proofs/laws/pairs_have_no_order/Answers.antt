use Rattle.pair_lj.proofs.SetLemmas.{numbers_at-comm}
use Rattle.pair_lj.proofs.laws.pairs_have_no_order.Goals as goal

pub returns : goal.returns
returns c = numbers_at-comm
