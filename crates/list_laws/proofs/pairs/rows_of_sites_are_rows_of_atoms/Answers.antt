use Rattle.list_laws.proofs.PairLemmas.{row_of_atoms}
use Rattle.list_laws.proofs.pairs.rows_of_sites_are_rows_of_atoms.Goals as goal

pub returns : goal.returns
returns c = row_of_atoms
