use Rattle.std.proofs.Common.{◌≡◌, ◌++◌, map, take, drop}
use Rattle.ghost_shell.specs.Ghosts.{forwarded}
use Rattle.ghost_shell.proofs.forward.forward_all.Given as goal

abbrev pub invariant-loop-image : goal.invariant-loop-image
invariant-loop-image l = l.ghosts ≡ map (forwarded l.cell.sides l.atoms) (take l.image-index l.fn.ghosts) ++ drop l.image-index l.fn.ghosts
