use Rattle.velocity_make.proofs.FastLemmas.{least_told, none_told, one_told}
use Rattle.velocity_make.proofs.laws.the_refusal_is_the_least.Goals as goal

pub returns-clause-there : goal.returns-clause-there
returns-clause-there c = one_told

pub returns-clause-least : goal.returns-clause-least
returns-clause-least c = least_told

pub returns-clause-none : goal.returns-clause-none
returns-clause-none c = none_told
