use Rattle.regions_groups.proofs.SideLemmas.{complement}
use Rattle.regions_groups.proofs.laws.side_out_is_the_complement.Goals as goal

pub returns : goal.returns
returns c earlier name region x = complement earlier name region x
