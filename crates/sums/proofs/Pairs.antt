-- Sums over ordered and over unordered pairs, and what adds of pair terms bring to the words of a list's elements.
use Rattle.std.proofs.Common.{◌≡◌, ℕ, zero, suc, ◌<◌, ℤ, pos, ◌+ℤ◌, neg_ℤ, Bool, true, false, cond, ◌==◌, List, [], ◌∷◌, map, length, get_or, refl, sym, ap, ◌∙◌, arith, filter, flat_map, IsPermutation, subst, eq-eqb}
use Rattle.std.proofs.lemmas.Bool.Decides.{nat_tests}
use Rattle.std.specs.List.{IsDistinct, AllByRecursion}
use Rattle.std.proofs.lemmas.Int.{ints}
use Rattle.std.proofs.lemmas.Map.Keys.{IsDistinct-head, IsDistinct-tail}
use Rattle.std.proofs.lemmas.List.Elements.{All-from_recursion, All-get_or}
use Rattle.sums.specs.Totals.{total, half, into, at_key, opposite_adds}
use Rattle.sums.proofs.Totals.{total-append, total-add, total-zero, total-same, total-map, total-flat_map, total-filter, total-IsPermutation}

-- a sum over ordered pairs is one over unordered pairs, both ways round, where an element with itself counts 0
pub total-half : {X : Type 0} (f : X → X → ℤ) → ((x : X) → f x x ≡ pos 0) → (xs : List X) → total (λ x. total (f x) xs) xs ≡ total (λ (p : X × X). f p.0 p.1 +ℤ f p.1 p.0) (half xs)
total-half f alone [] = refl
total-half {X} f alone (x ∷ xs) =
    omega (
      arith,
      ints,
      alone x,
      total-half f alone xs,
      total-add (λ y. f y x) (λ y. total (f y) xs) xs,
      total-append (λ (p : X × X). f p.0 p.1 +ℤ f p.1 p.0) (map (λ y. (x, y)) xs) (half xs),
      total-map (λ (p : X × X). f p.0 p.1 +ℤ f p.1 p.0) (λ y. (x, y)) xs,
      total-add (λ y. f x y) (λ y. f y x) xs,
    )

total_chosen : {X : Type 0} (b : Bool) (f : X → ℤ) (xs : List X) → total (λ x. cond b (f x) (pos 0)) xs ≡ cond b (total f xs) (pos 0)
total_chosen true f xs = refl
total_chosen false f xs = total-zero xs

module _ {X : Type 0} (word : X → ℕ) (term : X → X → ℤ) (alone : (x : X) → term x x ≡ pos 0) (opposite : (x y : X) → term y x ≡ neg_ℤ (term x y)) (k : ℕ) where
  -- the term of x and y where x has the word k
  there : X → X → ℤ
  there x y = cond (word x == k) (term x y) (pos 0)

  chosen_zero : (b : Bool) (z : ℤ) → z ≡ pos 0 → cond b z (pos 0) ≡ pos 0
  chosen_zero true z e = e
  chosen_zero false z e = refl

  there_alone : (x : X) → there x x ≡ pos 0
  unfolding there
  there_alone x = chosen_zero (word x == k) (term x x) (alone x)

  brought : (p : X × X) → total (into k) (opposite_adds word term p) ≡ there p.0 p.1 +ℤ there p.1 p.0
  unfolding there
  brought p = let e = opposite p.0 p.1 in rw e (omega (arith, ints))

  there_total : (x : X) (xs : List X) → total (there x) xs ≡ at_key word k (λ y. total (term y) xs) x
  unfolding there
  there_total x xs = total_chosen (word x == k) (term x) xs

  -- the adds of all unordered pairs bring to the word k the sums of the elements that have it
  pub words_from_half : (xs : List X) → total (into k) (flat_map (opposite_adds word term) (half xs)) ≡ total (at_key word k (λ x. total (term x) xs)) xs
  words_from_half xs =
      total-flat_map (into k) (opposite_adds word term) (half xs)
      ∙ total-same (λ p. total (into k) (opposite_adds word term p)) (λ p. there p.0 p.1 +ℤ there p.1 p.0) brought (half xs)
      ∙ sym (total-half there there_alone xs)
      ∙ total-same (λ x. total (there x) xs) (at_key word k (λ x. total (term x) xs)) (λ x. there_total x xs) xs

  both_zero : (p : X × X) (b : Bool) → (b ≡ false → term p.0 p.1 ≡ pos 0) → cond b (total (into k) (opposite_adds word term p)) (pos 0) ≡ total (into k) (opposite_adds word term p)
  both_zero p true far = refl
  both_zero p false far = let e = far refl in rw e (two_zeros (word p.0 == k) (word p.1 == k))
    where
      two_zeros : (b c : Bool) → pos 0 ≡ cond b (pos 0) (pos 0) +ℤ (cond c (neg_ℤ (pos 0)) (pos 0) +ℤ pos 0)
      two_zeros true true = refl
      two_zeros true false = refl
      two_zeros false true = refl
      two_zeros false false = refl

  -- the same of any list of pairs that has, in some order, those unordered pairs that are near, where the terms of all others are 0
  pub words_from_list : (near : X × X → Bool) → ((p : X × X) → near p ≡ false → term p.0 p.1 ≡ pos 0) → (xs : List X) (pairs : List (X × X)) → IsPermutation (filter near (half xs)) pairs → total (into k) (flat_map (opposite_adds word term) pairs) ≡ total (at_key word k (λ x. total (term x) xs)) xs
  words_from_list near far xs pairs same =
      let bring : X × X → ℤ = λ p. total (into k) (opposite_adds word term p) in
      total-flat_map (into k) (opposite_adds word term) pairs
      ∙ total-IsPermutation bring (filter near (half xs)) pairs same
      ∙ total-filter bring near (half xs)
      ∙ total-same (λ p. cond (near p) (bring p) (pos 0)) bring (λ p. both_zero p (near p) (far p)) (half xs)
      ∙ sym (total-flat_map (into k) (opposite_adds word term) (half xs))
      ∙ words_from_half xs

module _ {X : Type 0} (key : X → ℕ) (f : X → ℤ) where
  -- where no element has the key k, nothing is at it
  at_no_key : (k : ℕ) (xs : List X) → AllByRecursion (λ y. (k == key y) ≡ false) xs → total (at_key key k f) xs ≡ pos 0
  at_no_key k [] apart = refl
  at_no_key k (x ∷ xs) apart =
      let other : (key x == k) ≡ false = grind (arith, nat_tests, apart.0) in
      rw other (omega (arith, ints, at_no_key k xs apart.1))

  found_at : (k : ℕ) (xs : List X) (i : ℕ) (d : X) → IsDistinct (λ x y. key x == key y) xs → i < length xs → k ≡ key (get_or xs i d) → total (at_key key k f) xs ≡ f (get_or xs i d)
  found_at k [] i d apart lt is = absurd (omega arith)
  found_at k (x ∷ xs) zero d apart lt is =
      let here : (key x == k) ≡ true = eq-eqb (key x) k (sym is) in
      let none_else : total (at_key key k f) xs ≡ pos 0 = at_no_key k xs (subst (λ j. AllByRecursion (λ y. (j == key y) ≡ false) xs) (sym is) (IsDistinct-head (λ x y. key x == key y) x xs apart)) in
      rw here (omega (arith, ints, none_else))
  found_at k (x ∷ xs) (suc i) d apart lt is =
      let differs : (key x == key (get_or xs i d)) ≡ false = All-get_or (λ y. (key x == key y) ≡ false) xs i d (omega arith) (All-from_recursion (λ y. (key x == key y) ≡ false) xs (IsDistinct-head (λ x y. key x == key y) x xs apart)) in
      let other : (key x == k) ≡ false = ap (λ j. key x == j) is ∙ differs in
      rw other (omega (arith, ints, found_at k xs i d (IsDistinct-tail (λ x y. key x == key y) x xs apart) (omega arith) is))

  -- where no two elements have one key, only the element that has it counts
  pub total-at_key : (xs : List X) (i : ℕ) (d : X) → IsDistinct (λ x y. key x == key y) xs → i < length xs → total (at_key key (key (get_or xs i d)) f) xs ≡ f (get_or xs i d)
  total-at_key xs i d apart lt = found_at (key (get_or xs i d)) xs i d apart lt refl
