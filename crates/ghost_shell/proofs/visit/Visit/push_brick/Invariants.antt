use Rattle.std.proofs.Common.{◌≡◌, ◌++◌, drop, flat_map}
use Rattle.ghost_shell.specs.Walks.{atoms_at, found_of}
use Rattle.ghost_shell.proofs.visit.Visit.push_brick.Given as goal

abbrev pub invariant-loop-place : goal.invariant-loop-place
invariant-loop-place l =
    l.ghosts.items ++ flat_map (found_of l.self) (atoms_at l.atoms (drop l.place-index l.places))
    ≡ l.fn.ghosts.items ++ flat_map (found_of l.self) (atoms_at l.atoms l.places)
