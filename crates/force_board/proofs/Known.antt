-- What the agreement tells of one seat's part.
use Rattle.std.proofs.Common.{◌≡◌, ℕ, zero, suc, ◌+◌, ◌<◌, ◌≤◌, min, Bool, true, false, ltb, List, [], ◌∷◌, length, slice_index, sum_by, All, refl, ap, arith, ltb-true, lt-ltb}
use Rattle.std.proofs.lemmas.List.Sums.{sum_by-cons, sum_by_push}
use Rattle.std.proofs.lemmas.List.Elements.{All-nil, All-cons}
use mathlib.Core.Option.{some}
use lib.ListN.{get_elem?}
use Rattle.weave_core.specs.declared.part.Part.{Part}
use Rattle.weave_core.specs.declared.limits.TheConstants.{MAX_PIECES}
use Rattle.weave_core.specs.Parts.{numbers_below}
use Rattle.weave_core.specs.Agree.{Agree}
use Rattle.weave_core.proofs.Lists.{at-le-sum_by}
use Rattle.weave_core.proofs.Steps.{here, held_count}
use Rattle.weave_core.proofs.Whole.{has_each}
use Rattle.force_board.specs.Steps.{Knows}

abbrev outside_flag : Bool → ℕ
outside_flag true = 0
outside_flag false = 1

-- 1 for a number that is not below n, 0 for one that is
abbrev outside : ℕ → ℕ → ℕ
outside n x = outside_flag (ltb x n)

-- a part of what lies below n weighs nothing outside it, and what weighs nothing outside lies below n
none_outside : (n k : ℕ) → k ≤ n → sum_by (outside n) (numbers_below k) ≡ 0
none_outside n zero le = refl
none_outside n (suc k) le =
    let inside : ltb k n ≡ true = lt-ltb k n (omega arith) in
    omega (arith, sum_by_push (outside n) (numbers_below k) k, none_outside n k (omega arith), ap outside_flag inside)

all_inside : (n : ℕ) (xs : List ℕ) → sum_by (outside n) xs ≡ 0 → All (λ x. x < n) xs
all_inside n [] none = All-nil (λ x. x < n)
all_inside n (x ∷ xs) none =
    let split : outside n x + sum_by (outside n) xs ≡ 0 = omega (arith, none, sum_by-cons (outside n) x xs) in
    All-cons (λ y. y < n) x xs (by_test (ltb x n) refl (omega arith)) (all_inside n xs (omega arith))
  where
    by_test : (b : Bool) → ltb x n ≡ b → outside_flag b ≡ 0 → x < n
    by_test true is none_there = ltb-true x n is
    by_test false is none_there = absurd (omega (arith, none_there))

module _ (pieces count : ℕ) (words : List ℕ) (parts : List Part) (id : ℕ) (v : Part) (a : Agree pieces count words parts) (at : get_elem? parts id ≡ some v) where
  pub knows : pieces ≤ MAX_PIECES → Knows pieces v
  knows most = record {
    most = most;
    few = omega (arith, held_count pieces count words parts a, at-le-sum_by (λ (u : Part). length u.pieces) parts id v at);
    low = (here pieces count words parts id v a at).key;
    whole = λ all missed. has_each pieces count words parts id v a at all missed;
  }

  -- the counter is greater than every piece that a seat has
  pub all_drawn : All (λ piece. piece < slice_index words 0) v.pieces
  all_drawn =
      let n = slice_index words 0 in
      all_inside n v.pieces (omega (arith, at-le-sum_by (λ (u : Part). sum_by (outside n) u.pieces) parts id v at, a.once (outside n), none_outside n (min n pieces) (omega arith)))
