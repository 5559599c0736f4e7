use Rattle.pair_lj.proofs.PairLemmas.{weighted_term-whole}
use Rattle.pair_lj.proofs.laws.a_whole_weight_changes_nothing.Goals as goal

pub returns : goal.returns
returns c = weighted_term-whole
