use Rattle.list_laws.proofs.MovedLemmas.{acts_apart, far_apart}
use Rattle.list_laws.proofs.build.sites_stand_at_the_nearest_image_until_the_next_build.Goals as goal

pub returns-clause-near : goal.returns-clause-near
returns-clause-near c = λ s cutoff skin a b u v room hu hv one two near. acts_apart s cutoff skin a b u v room hu hv one two near

pub returns-clause-others : goal.returns-clause-others
returns-clause-others c = λ s cutoff a b u v ha hb far. far_apart s cutoff 0 a b u v ha hb far
