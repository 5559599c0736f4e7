use Rattle.fx_num.proofs.RootLemmas.{sqrt_of_is, sqrt_is, cbrt_of_is, cbrt_is}
use Rattle.fx_num.proofs.roots.roots_are_the_nearest.Goals as goal

pub returns-clause-sqrt_exists : goal.returns-clause-sqrt_exists
returns-clause-sqrt_exists c = sqrt_of_is

pub returns-clause-sqrt_unique : goal.returns-clause-sqrt_unique
returns-clause-sqrt_unique c = sqrt_is

pub returns-clause-cbrt_exists : goal.returns-clause-cbrt_exists
returns-clause-cbrt_exists c = cbrt_of_is

pub returns-clause-cbrt_unique : goal.returns-clause-cbrt_unique
returns-clause-cbrt_unique c = cbrt_is
