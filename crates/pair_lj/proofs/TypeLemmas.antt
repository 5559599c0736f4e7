-- Pairs of types, one type after another.
use Rattle.std.proofs.Common.{◌≡◌, ⊎_elim, ◌+◌, ◌-◌, ◌<◌, ◌≤◌, ◌&&◌, Bool, true, false, ℕ, zero, suc, is_some, Option, Some, None, IsNone, List, refl, sym, ap, subst, ◌∙◌, arith}
use Rattle.std.specs.List.{list_all}
use Rattle.std.proofs.Math.Nat.{eq-or-lt_of_le}
use Rattle.pair_lj.specs.declared.pair_settings.PairCoefficients.{PairCoefficients}
use Rattle.pair_lj.specs.Pairs.{IsFirstUnset, PairNumbers, are_all_had, are_had_with, numbers_at, types_from}

types_more : (f : ℕ → Bool) (kind end : ℕ) → kind < end → list_all f (types_from kind (end - kind)) ≡ (f kind && list_all f (types_from (kind + 1) (end - (kind + 1))))
types_more f kind end below =
    let left : end - kind ≡ suc (end - (kind + 1)) = omega arith in
    ap (λ (n : ℕ). list_all f (types_from kind n)) left

pub types_step : (f : ℕ → Bool) (kind end : ℕ) (whole : Bool) → kind < end → f kind ≡ true → list_all f (types_from kind (end - kind)) ≡ whole → list_all f (types_from (kind + 1) (end - (kind + 1))) ≡ whole
types_step f kind end whole below passes is =
    sym (types_more f kind end below ∙ ap (λ (b : Bool). b && list_all f (types_from (kind + 1) (end - (kind + 1)))) passes) ∙ is

pub both_true : (b c : Bool) → (b && c) ≡ true → (b ≡ true) × (c ≡ true)
both_true true c e = (refl, e)
both_true false c e = absurd cc

member : (f : ℕ → Bool) (first n k : ℕ) → list_all f (types_from first n) ≡ true → first ≤ k → k < first + n → f k ≡ true
member f first zero k all low high = absurd (omega arith)
member f first (suc n) k all low high = ⊎_elim (λ (e : first ≡ k). subst (λ (m : ℕ). f m ≡ true) e (both_true (f first) (list_all f (types_from (first + 1) n)) all).0) (λ (later : first < k). member f (first + 1) n k (both_true (f first) (list_all f (types_from (first + 1) n)) all).1 (omega arith) (omega arith)) (eq-or-lt_of_le low)

-- each pair of types has numbers
pub pair_is_had : (kinds : ℕ) (pairs : List PairCoefficients) (i j : ℕ) → are_all_had kinds pairs ≡ true → 1 ≤ i → i ≤ kinds → 1 ≤ j → j ≤ kinds → is_some (numbers_at pairs i j) ≡ true
unfolding are_all_had
pair_is_had kinds pairs i j all low_i high_i low_j high_j =
    let row : are_had_with pairs i (types_from 1 kinds) ≡ true = member (λ a. are_had_with pairs a (types_from 1 kinds)) 1 kinds i all low_i (omega arith) in
    member (λ b. is_some (numbers_at pairs i b)) 1 kinds j row low_j (omega arith)

not_none : (o : Option PairNumbers) → is_some o ≡ true → IsNone o → ⊥
not_none (Some n) has none = cc
not_none None has none = cc

pub none_unset : (kinds : ℕ) (pairs : List PairCoefficients) (i j : ℕ) → are_all_had kinds pairs ≡ true → IsFirstUnset kinds pairs i j → ⊥
none_unset kinds pairs i j all unset =
    not_none (numbers_at pairs i j) (pair_is_had kinds pairs i j all unset.low (omega (arith, unset.ordered, unset.high)) (omega (arith, unset.low, unset.ordered)) unset.high) unset.unset
