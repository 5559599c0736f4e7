use Rattle.lattice_fill.proofs.PointLemmas.{all_inside, all_points, none_missed}
use Rattle.lattice_fill.proofs.laws.no_point_is_missed.Goals as goal

pub returns-clause-all : goal.returns-clause-all
returns-clause-all c = none_missed

pub returns-clause-inside : goal.returns-clause-inside
returns-clause-inside c = all_inside

pub returns-clause-points : goal.returns-clause-points
returns-clause-points c = all_points
