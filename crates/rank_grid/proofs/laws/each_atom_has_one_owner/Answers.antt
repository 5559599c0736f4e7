use Rattle.rank_grid.proofs.OwnedLemmas.{atoms_parted}
use Rattle.rank_grid.proofs.laws.each_atom_has_one_owner.Goals as goal

pub returns : goal.returns
returns c = λ counts s atoms h long inside. atoms_parted counts s atoms h inside
