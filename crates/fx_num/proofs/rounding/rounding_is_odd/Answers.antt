use Rattle.fx_num.proofs.RoundingLemmas.{div_rounded-neg}
use Rattle.fx_num.proofs.rounding.rounding_is_odd.Goals as goal

pub returns : goal.returns
returns c = div_rounded-neg
