use Rattle.box_geo.proofs.NearLemmas.{near_image_image, near_image_shortest}
use Rattle.box_geo.proofs.displacement.nearest_image_is_the_shortest.Goals as goal

pub returns-clause-image : goal.returns-clause-image
returns-clause-image c = near_image_image

pub returns-clause-shortest : goal.returns-clause-shortest
returns-clause-shortest c = near_image_shortest
