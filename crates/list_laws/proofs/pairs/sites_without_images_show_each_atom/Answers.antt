use Rattle.list_laws.proofs.PairLemmas.{sites_show}
use Rattle.list_laws.proofs.pairs.sites_without_images_show_each_atom.Goals as goal

pub returns : goal.returns
returns c = sites_show
