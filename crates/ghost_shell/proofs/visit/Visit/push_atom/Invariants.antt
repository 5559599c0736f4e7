use Rattle.std.proofs.Common.{◌≡◌, ◌++◌, drop, flat_map}
use Rattle.ghost_shell.specs.Walks.{found_on_plane}
use Rattle.ghost_shell.proofs.visit.Visit.push_atom.Given as goal

abbrev pub invariant-loop-i : goal.invariant-loop-i
invariant-loop-i l =
    l.ghosts.items ++ flat_map (found_on_plane l.self (l.place, l.atom)) (drop l.i-index l.i-items)
    ≡ l.fn.ghosts.items ++ flat_map (found_on_plane l.self (l.place, l.atom)) l.i-items
