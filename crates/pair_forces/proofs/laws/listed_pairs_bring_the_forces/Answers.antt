use Rattle.pair_forces.proofs.LawLemmas.{forces_brought}
use Rattle.pair_forces.proofs.laws.listed_pairs_bring_the_forces.Goals as goal

pub returns : goal.returns
returns c = forces_brought
