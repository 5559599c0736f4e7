use Rattle.neighbor_lists.proofs.RiseLemmas.{places_rise}
use Rattle.neighbor_lists.proofs.laws.near_places_rise.Goals as goal

pub returns : goal.returns
returns c = places_rise
