use Rattle.ghost_shell.proofs.ImageLemmas.{nearest_displacement, one_image}
use Rattle.ghost_shell.proofs.laws.a_near_pair_has_one_image.Goals as goal

pub returns-clause-one : goal.returns-clause-one
returns-clause-one c = λ s reach p q long room f g. one_image s reach p q long room f g

pub returns-clause-nearest : goal.returns-clause-nearest
returns-clause-nearest c = λ s p q. nearest_displacement s p q
