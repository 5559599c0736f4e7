use Rattle.lattice_fill.proofs.OnceLemmas.{no_point_twice}
use Rattle.lattice_fill.proofs.laws.no_point_stands_twice.Goals as goal

pub returns : goal.returns
returns c = no_point_twice
