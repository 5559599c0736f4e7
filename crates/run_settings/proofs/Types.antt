-- The types of a range, one by one.
use Rattle.std.proofs.Common.{arith, ◌≡◌, ◌<◌, ◌+◌, ◌-◌, ◌++◌, ◌∷◌, [], ◌∙◌, ap, append_assoc, suc, sym, List, ℕ}
use Rattle.pair_lj.specs.Pairs.{types_from}

types_more : (kind end : ℕ) → kind < end → types_from kind (end - kind) ≡ kind ∷ types_from (kind + 1) (end - (kind + 1))
types_more kind end below =
    let left : end - kind ≡ suc (end - (kind + 1)) = omega arith in
    ap (types_from kind) left

pub types_step : (types whole : List ℕ) (kind end : ℕ) → kind < end → types ++ types_from kind (end - kind) ≡ whole → (types ++ kind ∷ []) ++ types_from (kind + 1) (end - (kind + 1)) ≡ whole
types_step types whole kind end below is =
    append_assoc types (kind ∷ []) (types_from (kind + 1) (end - (kind + 1))) ∙ ap (λ (rest : List ℕ). types ++ rest) (sym (types_more kind end below)) ∙ is
