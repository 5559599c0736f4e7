use Rattle.box_geo.proofs.NearLemmas.{near_image-opposite, near_image-exchanged}
use Rattle.box_geo.proofs.displacement.nearest_image_is_odd.Goals as goal

pub returns-clause-components : goal.returns-clause-components
returns-clause-components c = near_image-opposite

pub returns-clause-vector : goal.returns-clause-vector
returns-clause-vector c = near_image-exchanged
