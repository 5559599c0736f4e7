use Rattle.pair_lj.proofs.PairLemmas.{pair_term-opposite}
use Rattle.pair_lj.proofs.laws.pair_term_is_odd.Goals as goal

pub returns : goal.returns
returns c = pair_term-opposite
