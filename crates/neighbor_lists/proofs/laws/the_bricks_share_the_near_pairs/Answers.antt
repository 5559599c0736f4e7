use Rattle.neighbor_lists.proofs.PairLemmas.{bricks_share}
use Rattle.neighbor_lists.proofs.laws.the_bricks_share_the_near_pairs.Goals as goal

pub returns : goal.returns
returns c = bricks_share
