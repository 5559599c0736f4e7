use Rattle.list_laws.proofs.PairLemmas.{near_pairs_by_rows}
use Rattle.list_laws.proofs.pairs.rows_are_the_near_pairs.Goals as goal

pub returns : goal.returns
returns c = near_pairs_by_rows
