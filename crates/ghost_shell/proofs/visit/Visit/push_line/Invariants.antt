use Rattle.std.proofs.Common.{◌≡◌, ◌++◌, ◌∷◌, [], drop, flat_map}
use Rattle.ghost_shell.specs.Walks.{ghost_by}
use Rattle.ghost_shell.proofs.visit.Visit.push_line.Given as goal

abbrev pub invariant-loop-k : goal.invariant-loop-k
invariant-loop-k l =
    l.ghosts.items ++ flat_map (λ k. ghost_by l.self.halo l.self.own (l.place, l.atom) (l.i ∷ l.j ∷ k ∷ [])) (drop l.k-index l.k-items)
    ≡ l.fn.ghosts.items ++ flat_map (λ k. ghost_by l.self.halo l.self.own (l.place, l.atom) (l.i ∷ l.j ∷ k ∷ [])) l.k-items
