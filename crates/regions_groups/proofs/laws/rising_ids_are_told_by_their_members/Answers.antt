use Rattle.regions_groups.proofs.OrderLemmas.{same_ids}
use Rattle.regions_groups.proofs.laws.rising_ids_are_told_by_their_members.Goals as goal

pub returns : goal.returns
returns c ids others one two same = same_ids ids others one two same
