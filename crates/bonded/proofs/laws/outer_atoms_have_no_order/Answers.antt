use Rattle.bonded.proofs.AngleLemmas.{angle_term-exchanged}
use Rattle.bonded.proofs.laws.outer_atoms_have_no_order.Goals as goal

pub returns : goal.returns
returns c = angle_term-exchanged
