use Rattle.std.proofs.Common.{refl}
use Rattle.fx_num.specs.Rounding.{nearest_of}
use Rattle.fx_num.proofs.rounding.nearest.Goals as goal

pub returns-clause-is : goal.returns-clause-is
unfolding nearest_of
returns-clause-is c = refl
