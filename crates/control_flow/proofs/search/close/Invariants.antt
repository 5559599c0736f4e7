use Rattle.std.proofs.Common.{◌≡◌, ◌∷◌, ◌+◌, drop, vec_len}
use Rattle.control_flow.proofs.search.close.Given as goal

abbrev pub invariant-loop-i : goal.invariant-loop-i
invariant-loop-i l =
    (l.file ∷ l.outer.items ≡ drop l._i (l.initial.file ∷ l.initial.outer.items)) × (vec_len l.outer + l._i ≡ vec_len l.initial.outer)
