use Rattle.box_geo.proofs.NearLemmas.{length2-opposite}
use Rattle.box_geo.proofs.displacement.opposite_lengths_are_equal.Goals as goal

pub returns : goal.returns
returns c = length2-opposite
