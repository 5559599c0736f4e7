use Rattle.std.proofs.Common.{◌≡◌, ◌++◌, drop, flat_map}
use Rattle.ghost_shell.specs.Walks.{found_on_line}
use Rattle.ghost_shell.proofs.visit.Visit.push_plane.Given as goal

abbrev pub invariant-loop-j : goal.invariant-loop-j
invariant-loop-j l =
    l.ghosts.items ++ flat_map (found_on_line l.self (l.place, l.atom) l.i) (drop l.j-index l.j-items)
    ≡ l.fn.ghosts.items ++ flat_map (found_on_line l.self (l.place, l.atom) l.i) l.j-items
