use Rattle.ghost_shell.proofs.ForwardLemmas.{forwarded_is}
use Rattle.ghost_shell.proofs.forward.follow.Goals as goal

pub returns : goal.returns
returns c = let a = c.near-d.ensures.is in let b = c.moved-image.ensures in
    forwarded_is c.args.cell.now.sides c.args.atoms.now c.args.image.now _ c.near-d.result c.moved-image.result c.requires.atom.0 c.near-d.ensures.is c.moved-image.ensures
