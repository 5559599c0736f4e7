use Rattle.list_laws.proofs.SkinLemmas.{none_missed, none_missed_in}
use Rattle.list_laws.proofs.skin.no_pair_is_missed_within_half_the_skin.Goals as goal

pub returns-clause-pair : goal.returns-clause-pair
returns-clause-pair c = none_missed

pub returns-clause-all : goal.returns-clause-all
returns-clause-all c = none_missed_in
