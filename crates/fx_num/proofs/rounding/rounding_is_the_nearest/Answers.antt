use Rattle.fx_num.proofs.RoundingLemmas.{div_rounded_nearest, nearest_is}
use Rattle.fx_num.proofs.rounding.rounding_is_the_nearest.Goals as goal

pub returns-clause-exists : goal.returns-clause-exists
returns-clause-exists c = div_rounded_nearest

pub returns-clause-unique : goal.returns-clause-unique
returns-clause-unique c = nearest_is
