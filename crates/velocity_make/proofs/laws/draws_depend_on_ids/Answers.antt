use Rattle.velocity_make.proofs.ListLemmas.{same_draw}
use Rattle.velocity_make.proofs.laws.draws_depend_on_ids.Goals as goal

pub returns : goal.returns
returns c = same_draw
