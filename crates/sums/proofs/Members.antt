-- Two lists without repeats that have the same members are the same list in another order.
use Rattle.std.proofs.Common.{◌≡◌, ℕ, zero, suc, ◌<◌, get_or, ◌⊎◌, inl, inr, ⊎_elim, Bool, true, false, List, [], ◌∷◌, length, refl, sym, subst, arith, Contains, Decides, IsPermutation, remove}
use Rattle.std.specs.List.{IsDistinct}
use Rattle.std.proofs.lemmas.Map.Keys.{IsDistinct-head, IsDistinct-tail, IsDistinct-IsPermutation}
use Rattle.std.proofs.lemmas.List.Elements.{All-from_recursion, All-contains}
use Rattle.std.proofs.lemmas.List.Sorted.{IsPermutation-refl, IsPermutation-trans, IsPermutation-sym, IsPermutation-cons, IsPermutation-remove, Contains-permutation}

module _ {X : Type 0} (e : X → X → Bool) (decides : (a b : X) → Decides (e a b) (a ≡ b)) (flips : (a b : X) → e a b ≡ e b a) where
  here : (x : X) (xs : List X) → Contains (x ∷ xs) x
  here x xs = (0, omega arith, refl)

  later : (x y : X) (xs : List X) → Contains xs y → Contains (x ∷ xs) y
  later x y xs c = (suc c.0, omega (arith, c.1), c.2)

  first_or_later : (x y : X) (xs : List X) → Contains (x ∷ xs) y → (x ≡ y) ⊎ Contains xs y
  first_or_later x y xs c = by_place c.0 c.1 c.2
    where
      by_place : (k : ℕ) → k < length (x ∷ xs) → get_or (x ∷ xs) k y ≡ y → (x ≡ y) ⊎ Contains xs y
      by_place zero lt is = inl is
      by_place (suc k) lt is = inr (k, omega arith, is)

  -- the first of a list without repeats does not come again
  not_again : (x : X) (xs : List X) → IsDistinct e (x ∷ xs) → Contains xs x → ⊥
  not_again x xs apart c =
      let no : e x x ≡ false = All-contains (λ y. e x y ≡ false) xs x (All-from_recursion (λ y. e x y ≡ false) xs (IsDistinct-head e x xs apart)) c in
      let yes : e x x ≡ true = (decides x x).1 refl in
      cc

  -- of a member of both lists that is not the first, the rest has it
  not_first : (x y : X) (xs ys : List X) → IsDistinct e (x ∷ xs) → Contains xs y → Contains (x ∷ ys) y → Contains ys y
  not_first x y xs ys apart in_xs in_ys = ⊎_elim (λ is. absurd (not_again x xs apart (subst (Contains xs) (sym is) in_xs))) (λ c. c) (first_or_later x y ys in_ys)

  pub IsPermutation-from_members : (xs ys : List X) → IsDistinct e xs → IsDistinct e ys → ((x : X) → Contains xs x → Contains ys x) → ((x : X) → Contains ys x → Contains xs x) → IsPermutation xs ys
  IsPermutation-from_members [] [] apart apart' there back = IsPermutation-refl []
  IsPermutation-from_members [] (y ∷ ys) apart apart' there back = let c : Contains [] y = back y (here y ys) in absurd (omega (arith, c.1))
  IsPermutation-from_members (x ∷ xs) ys apart apart' there back =
      let place : Contains ys x = there x (here x xs) in
      let rest : List X = remove ys place.0 in
      let moved : IsPermutation ys (x ∷ rest) = IsPermutation-remove ys place.0 x place.1 (sym place.2) in
      let apart_moved : IsDistinct e (x ∷ rest) = IsDistinct-IsPermutation e flips ys (x ∷ rest) moved apart' in
      let onward : (y : X) → Contains xs y → Contains rest y = λ y c. not_first x y xs rest apart c (Contains-permutation ys (x ∷ rest) y moved (there y (later x y xs c))) in
      let backward : (y : X) → Contains rest y → Contains xs y = λ y c. not_first x y rest xs apart_moved c (back y (Contains-permutation (x ∷ rest) ys y (IsPermutation-sym ys (x ∷ rest) moved) (later x y rest c))) in
      let tails : IsPermutation xs rest = IsPermutation-from_members xs rest (IsDistinct-tail e x xs apart) (IsDistinct-tail e x rest apart_moved) onward backward in
      IsPermutation-trans (x ∷ xs) (x ∷ rest) ys (IsPermutation-cons x xs rest tails) (IsPermutation-sym ys (x ∷ rest) moved)
