use Rattle.std.proofs.Common.{◌≡◌, ◌++◌, take, map}
use Rattle.ghost_shell.specs.Lists.{own_site}
use Rattle.ghost_shell.specs.Walks.{atoms_at}
use Rattle.neighbor_lists.proofs.sites.push_own.Given as goal

abbrev pub invariant-loop-place : goal.invariant-loop-place
invariant-loop-place l = l.sites.items ≡ l.fn.sites.items ++ map own_site (atoms_at l.atoms (take l.place-index l.places))
