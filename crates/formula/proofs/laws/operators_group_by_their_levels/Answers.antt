use Rattle.std.proofs.Common.{[]}
use Rattle.formula.specs.declared.state.State.TheVariants.{Needs}
use Rattle.formula.proofs.GroupLemmas.{run_is}
use Rattle.formula.proofs.laws.operators_group_by_their_levels.Goals as goal

pub returns : goal.returns
returns c = λ text tree is. run_is text 0 (Needs []) tree tt is
