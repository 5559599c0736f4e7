use Rattle.list_laws.proofs.BuildLemmas.{near_until_build}
use Rattle.list_laws.proofs.build.lists_have_the_near_pairs_until_the_next_build.Goals as goal

pub returns : goal.returns
returns c = near_until_build
