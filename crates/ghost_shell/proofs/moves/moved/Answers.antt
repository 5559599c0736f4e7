use Rattle.ghost_shell.proofs.SignLemmas.{moved_is}
use Rattle.ghost_shell.proofs.moves.moved.Goals as goal

pub returns : goal.returns
returns c = moved_is c.args.p.now c.args.shift.now c.requires.p c.requires.shift
