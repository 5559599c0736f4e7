use Rattle.neighbor_lists.proofs.PairLemmas.{one_brick}
use Rattle.neighbor_lists.proofs.laws.one_brick_has_the_near_pairs.Goals as goal

pub returns : goal.returns
returns c = one_brick
