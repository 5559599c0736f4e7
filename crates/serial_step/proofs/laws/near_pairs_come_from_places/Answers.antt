use Rattle.serial_step.proofs.PlaceLemmas.{near_pairs_from_places}
use Rattle.serial_step.proofs.laws.near_pairs_come_from_places.Goals as goal

pub returns : goal.returns
returns c = near_pairs_from_places
