use Rattle.std.proofs.Common.{◌≡◌, ◌++◌, take}
use Rattle.ghost_shell.specs.Lists.{sites_of}
use Rattle.neighbor_lists.proofs.sites.push_ghosts.Given as goal

abbrev pub invariant-loop-image : goal.invariant-loop-image
invariant-loop-image l = l.sites.items ≡ l.fn.sites.items ++ sites_of (take l.image-index l.ghosts)
