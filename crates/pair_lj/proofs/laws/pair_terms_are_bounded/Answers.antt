use Rattle.pair_lj.proofs.PairLemmas.{pair_term-bounded}
use Rattle.pair_lj.proofs.laws.pair_terms_are_bounded.Goals as goal

pub returns : goal.returns
returns c = pair_term-bounded
