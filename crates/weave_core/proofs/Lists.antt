-- Sums and least numbers over a list when one element changes, when one has all of it, and when lists are joined.
use Rattle.std.proofs.Common.{◌≡◌, ℕ, zero, suc, ◌+◌, ◌<◌, ◌≤◌, ◌≢◌, min, List, [], ◌∷◌, ◌++◌, length, get_or, set, ℤ, pos, ◌+ℤ◌, sum_by, All, refl, sym, ap, subst, arith}
use Rattle.std.proofs.lemmas.Int.{ints}
use Rattle.std.proofs.lemmas.List.Sums.{sum_by-cons, sum_by-set}
use Rattle.std.proofs.lemmas.List.Elements.{All-head, All-tail}
use mathlib.Core.Option.{some, some-injective, some-ne-none}
use lib.ListN.{get_elem?}
use Rattle.sums.specs.Totals.{total}
use Rattle.weave_core.specs.declared.limits.TheConstants.{NO_KEY}
use Rattle.weave_core.specs.Parts.{least}

module _ {X : Type 0} where
  pub at_within : (xs : List X) (i : ℕ) (v : X) → get_elem? xs i ≡ some v → i < length xs
  at_within [] i v at = absurd (some-ne-none v (sym at))
  at_within (x ∷ xs) zero v at = omega arith
  at_within (x ∷ xs) (suc i) v at = omega (arith, at_within xs i v at)

  pub at_is : (xs : List X) (i : ℕ) (v d : X) → get_elem? xs i ≡ some v → get_or xs i d ≡ v
  at_is [] i v d at = absurd (some-ne-none v (sym at))
  at_is (x ∷ xs) zero v d at = some-injective x v at
  at_is (x ∷ xs) (suc i) v d at = at_is xs i v d at

  pub at_index : (xs : List X) (i : ℕ) (d : X) → i < length xs → get_elem? xs i ≡ some (get_or xs i d)
  at_index [] i d lt = absurd (omega arith)
  at_index (x ∷ xs) zero d lt = refl
  at_index (x ∷ xs) (suc i) d lt = at_index xs i d (omega arith)

  pub All-at : (P : X → Type 0) (xs : List X) (i : ℕ) (v : X) → All P xs → get_elem? xs i ≡ some v → P v
  All-at P xs i v all at = subst P (at_is xs i v v at) (all i v (at_within xs i v at))

  pub at_set_here : (xs : List X) (i : ℕ) (v : X) → i < length xs → get_elem? (set xs i v) i ≡ some v
  at_set_here [] i v lt = absurd (omega arith)
  at_set_here (x ∷ xs) zero v lt = refl
  at_set_here (x ∷ xs) (suc i) v lt = at_set_here xs i v (omega arith)

  pub at_set_else : (xs : List X) (i j : ℕ) (v : X) → j ≢ i → get_elem? (set xs i v) j ≡ get_elem? xs j
  at_set_else [] i j v ne = refl
  at_set_else (x ∷ xs) zero zero v ne = absurd (ne refl)
  at_set_else (x ∷ xs) zero (suc j) v ne = refl
  at_set_else (x ∷ xs) (suc i) zero v ne = refl
  at_set_else (x ∷ xs) (suc i) (suc j) v ne = at_set_else xs i j v (λ e. ne (ap suc e))

module _ {X : Type 0} (f : X → ℕ) where
  pub sum_by-at : (xs : List X) (i : ℕ) (v w : X) → get_elem? xs i ≡ some v → sum_by f (set xs i w) + f v ≡ sum_by f xs + f w
  sum_by-at xs i v w at = subst (λ x. sum_by f (set xs i w) + f x ≡ sum_by f xs + f w) (at_is xs i v v at) (sum_by-set f xs i w v (at_within xs i v at))

  pub sum_by-same_at : (xs : List X) (i : ℕ) (v w : X) → get_elem? xs i ≡ some v → f w ≡ f v → sum_by f (set xs i w) ≡ sum_by f xs
  sum_by-same_at xs i v w at same = omega (arith, sum_by-at xs i v w at)

  pub at-le-sum_by : (xs : List X) (i : ℕ) (v : X) → get_elem? xs i ≡ some v → f v ≤ sum_by f xs
  at-le-sum_by [] i v at = absurd (some-ne-none v (sym at))
  at-le-sum_by (x ∷ xs) zero v at = omega (arith, sum_by-cons f x xs, ap f (some-injective x v at))
  at-le-sum_by (x ∷ xs) (suc i) v at = omega (arith, sum_by-cons f x xs, at-le-sum_by xs i v at)

  pub sum_by-le_sum_by : (g : X → ℕ) (xs : List X) → All (λ x. f x ≤ g x) xs → sum_by f xs ≤ sum_by g xs
  sum_by-le_sum_by g [] all = omega arith
  sum_by-le_sum_by g (x ∷ xs) all = omega (arith, sum_by-cons f x xs, sum_by-cons g x xs, All-head (λ y. f y ≤ g y) x xs all, sum_by-le_sum_by g xs (All-tail (λ y. f y ≤ g y) x xs all))

module _ {X : Type 0} (f : X → ℤ) where
  pub total-at : (xs : List X) (i : ℕ) (v w : X) → get_elem? xs i ≡ some v → total f (set xs i w) +ℤ f v ≡ total f xs +ℤ f w
  total-at [] i v w at = absurd (some-ne-none v (sym at))
  total-at (x ∷ xs) zero v w at = omega (arith, ints, ap f (some-injective x v at))
  total-at (x ∷ xs) (suc i) v w at = omega (arith, ints, total-at xs i v w at)

  pub total-same_at : (xs : List X) (i : ℕ) (v w : X) → get_elem? xs i ≡ some v → f w ≡ f v → total f (set xs i w) ≡ total f xs
  total-same_at xs i v w at same = omega (arith, ints, total-at xs i v w at)

module _ {X : Type 0} (f : X → ℕ) where
  pub least-le : (xs : List X) → least f xs ≤ NO_KEY
  least-le [] = omega arith
  least-le (x ∷ xs) = omega (arith, least-le xs)

  pub least-le_at : (xs : List X) (i : ℕ) (v : X) → get_elem? xs i ≡ some v → least f xs ≤ f v
  least-le_at [] i v at = absurd (some-ne-none v (sym at))
  least-le_at (x ∷ xs) zero v at = omega (arith, ap f (some-injective x v at))
  least-le_at (x ∷ xs) (suc i) v at = omega (arith, least-le_at xs i v at)

  pub least-append : (xs ys : List X) → least f (xs ++ ys) ≡ min (least f xs) (least f ys)
  least-append [] ys = omega (arith, least-le ys)
  least-append (x ∷ xs) ys = omega (arith, least-append xs ys)

  -- one element's number is lowered, and so is the least
  pub least-lowered_at : (xs : List X) (i : ℕ) (v w : X) (k : ℕ) → get_elem? xs i ≡ some v → f w ≡ min (f v) k → least f (set xs i w) ≡ min (least f xs) k
  least-lowered_at [] i v w k at is = absurd (some-ne-none v (sym at))
  least-lowered_at (x ∷ xs) zero v w k at is = omega (arith, ap f (some-injective x v at))
  least-lowered_at (x ∷ xs) (suc i) v w k at is = omega (arith, least-lowered_at xs i v w k at is)

  pub least-same_at : (xs : List X) (i : ℕ) (v w : X) → get_elem? xs i ≡ some v → f w ≡ f v → least f (set xs i w) ≡ least f xs
  least-same_at [] i v w at is = absurd (some-ne-none v (sym at))
  least-same_at (x ∷ xs) zero v w at is = omega (arith, ap f (some-injective x v at))
  least-same_at (x ∷ xs) (suc i) v w at is = omega (arith, least-same_at xs i v w at is)

  -- one element's number is taken out
  pub least-spent_at : (xs : List X) (i : ℕ) (v w : X) → get_elem? xs i ≡ some v → f w ≡ NO_KEY → least f xs ≡ min (least f (set xs i w)) (f v)
  least-spent_at [] i v w at is = absurd (some-ne-none v (sym at))
  least-spent_at (x ∷ xs) zero v w at is = omega (arith, ap f (some-injective x v at), least-le xs)
  least-spent_at (x ∷ xs) (suc i) v w at is = omega (arith, least-spent_at xs i v w at is)

-- one element has the whole sum of s, and where s is 0 so is f: it has the whole sum of f
module _ {X : Type 0} (s : X → ℕ) where
  pub sum_by-alone : (f : X → ℕ) (xs : List X) (i : ℕ) (v : X) → get_elem? xs i ≡ some v → sum_by s xs ≡ s v → All (λ x. s x ≡ 0 → f x ≡ 0) xs → sum_by f xs ≡ f v
  sum_by-alone f [] i v at whole idle = absurd (some-ne-none v (sym at))
  sum_by-alone f (x ∷ xs) zero v at whole idle =
      let is : x ≡ v = some-injective x v at in
      let rest : sum_by s xs ≡ 0 = omega (arith, sum_by-cons s x xs, ap s is) in
      omega (arith, ap f is, sum_by-cons f x xs, nothing xs rest (All-tail (λ y. s y ≡ 0 → f y ≡ 0) x xs idle))
    where
      nothing : (ys : List X) → sum_by s ys ≡ 0 → All (λ y. s y ≡ 0 → f y ≡ 0) ys → sum_by f ys ≡ 0
      nothing [] zero_sum all = refl
      nothing (y ∷ ys) zero_sum all =
          let here : f y ≡ 0 = All-head (λ z. s z ≡ 0 → f z ≡ 0) y ys all (omega (arith, sum_by-cons s y ys)) in
          omega (arith, sum_by-cons f y ys, nothing ys (omega (arith, sum_by-cons s y ys)) (All-tail (λ z. s z ≡ 0 → f z ≡ 0) y ys all))
  sum_by-alone f (x ∷ xs) (suc i) v at whole idle =
      let rest : sum_by s xs ≡ s v = omega (arith, sum_by-cons s x xs, at-le-sum_by s xs i v at) in
      let here : f x ≡ 0 = All-head (λ y. s y ≡ 0 → f y ≡ 0) x xs idle (omega (arith, sum_by-cons s x xs)) in
      omega (arith, sum_by-cons f x xs, sum_by-alone f xs i v at rest (All-tail (λ y. s y ≡ 0 → f y ≡ 0) x xs idle))

  pub total-alone : (f : X → ℤ) (xs : List X) (i : ℕ) (v : X) → get_elem? xs i ≡ some v → sum_by s xs ≡ s v → All (λ x. s x ≡ 0 → f x ≡ pos 0) xs → total f xs ≡ f v
  total-alone f [] i v at whole idle = absurd (some-ne-none v (sym at))
  total-alone f (x ∷ xs) zero v at whole idle =
      let is : x ≡ v = some-injective x v at in
      let rest : sum_by s xs ≡ 0 = omega (arith, sum_by-cons s x xs, ap s is) in
      omega (arith, ints, ap f is, nothing xs rest (All-tail (λ y. s y ≡ 0 → f y ≡ pos 0) x xs idle))
    where
      nothing : (ys : List X) → sum_by s ys ≡ 0 → All (λ y. s y ≡ 0 → f y ≡ pos 0) ys → total f ys ≡ pos 0
      nothing [] zero_sum all = refl
      nothing (y ∷ ys) zero_sum all =
          let here : f y ≡ pos 0 = All-head (λ z. s z ≡ 0 → f z ≡ pos 0) y ys all (omega (arith, sum_by-cons s y ys)) in
          omega (arith, ints, nothing ys (omega (arith, sum_by-cons s y ys)) (All-tail (λ z. s z ≡ 0 → f z ≡ pos 0) y ys all))
  total-alone f (x ∷ xs) (suc i) v at whole idle =
      let rest : sum_by s xs ≡ s v = omega (arith, sum_by-cons s x xs, at-le-sum_by s xs i v at) in
      let here : f x ≡ pos 0 = All-head (λ y. s y ≡ 0 → f y ≡ pos 0) x xs idle (omega (arith, sum_by-cons s x xs)) in
      omega (arith, ints, total-alone f xs i v at rest (All-tail (λ y. s y ≡ 0 → f y ≡ pos 0) x xs idle))

  pub least-alone : (f : X → ℕ) (xs : List X) (i : ℕ) (v : X) → get_elem? xs i ≡ some v → sum_by s xs ≡ s v → f v ≤ NO_KEY → All (λ x. s x ≡ 0 → f x ≡ NO_KEY) xs → least f xs ≡ f v
  least-alone f [] i v at whole small idle = absurd (some-ne-none v (sym at))
  least-alone f (x ∷ xs) zero v at whole small idle =
      let is : x ≡ v = some-injective x v at in
      let rest : sum_by s xs ≡ 0 = omega (arith, sum_by-cons s x xs, ap s is) in
      omega (arith, ap f is, nothing xs rest (All-tail (λ y. s y ≡ 0 → f y ≡ NO_KEY) x xs idle))
    where
      nothing : (ys : List X) → sum_by s ys ≡ 0 → All (λ y. s y ≡ 0 → f y ≡ NO_KEY) ys → least f ys ≡ NO_KEY
      nothing [] zero_sum all = refl
      nothing (y ∷ ys) zero_sum all =
          let here : f y ≡ NO_KEY = All-head (λ z. s z ≡ 0 → f z ≡ NO_KEY) y ys all (omega (arith, sum_by-cons s y ys)) in
          omega (arith, nothing ys (omega (arith, sum_by-cons s y ys)) (All-tail (λ z. s z ≡ 0 → f z ≡ NO_KEY) y ys all))
  least-alone f (x ∷ xs) (suc i) v at whole small idle =
      let rest : sum_by s xs ≡ s v = omega (arith, sum_by-cons s x xs, at-le-sum_by s xs i v at) in
      let here : f x ≡ NO_KEY = All-head (λ y. s y ≡ 0 → f y ≡ NO_KEY) x xs idle (omega (arith, sum_by-cons s x xs)) in
      omega (arith, least-alone f xs i v at rest small (All-tail (λ y. s y ≡ 0 → f y ≡ NO_KEY) x xs idle))
