use Rattle.bonded.proofs.BondLemmas.{bond_term-opposite}
use Rattle.bonded.proofs.laws.bond_term_is_odd.Goals as goal

pub returns : goal.returns
returns c = bond_term-opposite
