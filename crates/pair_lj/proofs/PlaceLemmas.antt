-- The places of a table: where a pair stands, and what filling one of them leaves.
use Rattle.std.proofs.Common.{◌≡◌, ⊎_elim, ◌⊎◌, ◌+◌, ◌-◌, ◌*◌, ◌/◌, ◌%◌, ◌<◌, ◌≤◌, ℕ, Option, Some, None, IsSome, IsNone, IsSomeAnd, List, length, slice_index_or, set, get_or, inl, inr, refl, sym, subst, ap, ◌∙◌, arith}
use Rattle.std.specs.Option.{option_map}
use Rattle.std.proofs.Math.Nat.{eq-or-lt_of_le}
use Rattle.std.proofs.lemmas.Bool.{cases_lt}
use Rattle.std.proofs.lemmas.List.{get_or-set_other, get_or-set_same}
use Rattle.pair_lj.specs.declared.coefficients.Coefficients.{Coefficients}
use Rattle.pair_lj.specs.declared.pair_settings.PairCoefficients.{PairCoefficients}
use Rattle.pair_lj.specs.Pairs.{IsBefore, IsFirstUnset, PairNumbers, numbers_at}
use Rattle.pair_lj.specs.Places.{AreFilled, HasNumbers, numbers_in, pair_in, place}
use Rattle.pair_lj.proofs.SetLemmas.{numbers_at-comm}

place_comm : (i j : ℕ) → place i j ≡ place j i
place_comm i j = omega arith

pair_in-comm : (places : List (Option Coefficients)) (i j : ℕ) → pair_in places i j ≡ pair_in places j i
pair_in-comm places i j = ap (λ (n : ℕ). slice_index_or places n None) (place_comm i j)

-- the places below one are filled
pub record IsFilledBelow (n kinds : ℕ) (pairs : List PairCoefficients) (places : List (Option Coefficients)) : Type 0 where
  pub filled : (a b : ℕ) → 1 ≤ a → a ≤ b → b ≤ kinds → place a b < n → HasNumbers pairs (pair_in places a b) a b

pub none_filled : (kinds : ℕ) (pairs : List PairCoefficients) (places : List (Option Coefficients)) → IsFilledBelow 0 kinds pairs places
none_filled kinds pairs places = record { filled = λ a b low ordered high below. absurd (omega (arith, below)) }

exchanged : (pairs : List PairCoefficients) (places : List (Option Coefficients)) (i j : ℕ) → HasNumbers pairs (pair_in places i j) i j → HasNumbers pairs (pair_in places j i) j i
exchanged pairs places i j h =
    subst (λ (o : Option Coefficients). HasNumbers pairs o j i) (pair_in-comm places i j)
    (subst (λ (o : Option PairNumbers). IsSomeAnd (pair_in places i j) (λ k. o ≡ Some (numbers_in k))) (numbers_at-comm pairs i j) h)

-- all are, in either order
pub all_filled : (n kinds : ℕ) (pairs : List PairCoefficients) (places : List (Option Coefficients)) → kinds ≤ 64 → 64 * kinds ≤ n → IsFilledBelow n kinds pairs places → AreFilled kinds pairs places
all_filled n kinds pairs places few whole h i j low_i high_i low_j high_j =
    elim (cases_lt j i) [
      | inl less ↦ exchanged pairs places j i (h.filled j i low_j (omega arith) high_i (omega arith))
      | inr more ↦ h.filled i j low_i more high_j (omega arith)
    ]

-- the types of a place
at_place : (a b n i j kinds : ℕ) → 1 ≤ a → a ≤ b → b ≤ kinds → kinds ≤ 64 → i ≡ n / 64 + 1 → j ≡ n % 64 + 1 → place a b ≡ n → (a ≡ i) × (b ≡ j)
at_place a b n i j kinds low ordered high few row column is = (omega arith, omega arith)

-- one place more
pub filled_more : (n kinds i j : ℕ) (pairs : List PairCoefficients) (places : List (Option Coefficients)) (k : Coefficients) → kinds ≤ 64 → n < length places → i ≡ n / 64 + 1 → j ≡ n % 64 + 1
    → numbers_at pairs i j ≡ Some (numbers_in k) → IsFilledBelow n kinds pairs places → IsFilledBelow (n + 1) kinds pairs (set places n (Some k))
filled_more n kinds i j pairs places k few lt row column is h = record {
  filled = λ a b low ordered high below.
      ⊎_elim
      (λ (e : place a b ≡ n).
      let are = at_place a b n i j kinds low ordered high few row column e in
      let kept : pair_in (set places n (Some k)) a b ≡ Some k = ap (λ (m : ℕ). slice_index_or (set places n (Some k)) m None) e ∙ set_here places n k lt in
      let numbers : numbers_at pairs a b ≡ Some (numbers_in k) = ap (λ (x : ℕ). numbers_at pairs x b) are.0 ∙ ap (λ (y : ℕ). numbers_at pairs i y) are.1 ∙ is in
      subst (λ (o : Option Coefficients). HasNumbers pairs o a b) (sym kept) numbers)
      (λ (less : place a b < n).
      subst (λ (o : Option Coefficients). HasNumbers pairs o a b) (sym (set_there places n (place a b) k less)) (h.filled a b low ordered high less))
      (eq-or-lt_of_le (omega (arith, below)));
}
  where
    set_here : (xs : List (Option Coefficients)) (m : ℕ) (x : Coefficients) → m < length xs → slice_index_or (set xs m (Some x)) m None ≡ Some x
    set_here xs m x below = get_or-set_same xs m (Some x) None below

    set_there : (xs : List (Option Coefficients)) (m l : ℕ) (x : Coefficients) → l < m → slice_index_or (set xs m (Some x)) l None ≡ slice_index_or xs l None
    set_there xs m l x below = get_or-set_other xs m l (Some x) None (λ e. omega arith)

-- a place that is no pair's
pub filled_past : (n kinds i j : ℕ) (pairs : List PairCoefficients) (places : List (Option Coefficients)) → kinds ≤ 64 → i ≡ n / 64 + 1 → j ≡ n % 64 + 1 → ((i ≤ j) × (j ≤ kinds) → ⊥)
    → IsFilledBelow n kinds pairs places → IsFilledBelow (n + 1) kinds pairs places
filled_past n kinds i j pairs places few row column off h = record {
  filled = λ a b low ordered high below.
      ⊎_elim
      (λ (e : place a b ≡ n).
      let are = at_place a b n i j kinds low ordered high few row column e in
      absurd (off (omega (arith, are.0, are.1), omega (arith, are.1))))
      (λ (less : place a b < n). h.filled a b low ordered high less)
      (eq-or-lt_of_le (omega (arith, below)));
}

-- a pair without numbers is the first
has_some : (pairs : List PairCoefficients) (o : Option Coefficients) (i j : ℕ) → HasNumbers pairs o i j → IsSome (numbers_at pairs i j)
has_some pairs None i j h = absurd h
has_some pairs (Some k) i j h = subst (λ (o : Option PairNumbers). IsSome o) (sym h) refl

before_place : (a b i j n kinds : ℕ) → 1 ≤ a → a ≤ b → b ≤ kinds → kinds ≤ 64 → i ≡ n / 64 + 1 → j ≡ n % 64 + 1 → IsBefore a b i j → place a b < n
before_place a b i j n kinds low ordered high few row column (inl less) = omega arith
before_place a b i j n kinds low ordered high few row column (inr same) = omega (arith, same.0, same.1)

pub first_unset : (n kinds i j : ℕ) (pairs : List PairCoefficients) (places : List (Option Coefficients)) → kinds ≤ 64 → i ≡ n / 64 + 1 → j ≡ n % 64 + 1 → i ≤ j → j ≤ kinds
    → numbers_at pairs i j ≡ None → IsFilledBelow n kinds pairs places → IsFirstUnset kinds pairs i j
first_unset n kinds i j pairs places few row column ordered high none h = record {
  low = omega arith;
  ordered = ordered;
  high = high;
  unset = subst (λ (o : Option PairNumbers). IsNone o) (sym none) refl;
  first = λ a b low up last before. has_some pairs (pair_in places a b) a b (h.filled a b low up last (before_place a b i j n kinds low up last few row column before));
}
