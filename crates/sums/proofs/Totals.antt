-- Laws of the sum over a list: of joined, mapped, filtered and rearranged lists, and of double sums.
use Rattle.std.proofs.Common.{◌≡◌, ℕ, ◌+◌, ◌<◌, ℤ, pos, ◌+ℤ◌, neg_ℤ, Bool, true, false, cond, List, [], ◌∷◌, ◌++◌, map, length, get_or, take, refl, sym, ap, ◌∙◌, arith, sum_by, filter, flat_map, IsPermutation}
use Rattle.std.proofs.lemmas.Int.{ints}
use borrow.Author.Differences.{up, down}
use Rattle.std.proofs.lemmas.List.{take_more}
use Rattle.std.proofs.lemmas.List.Sums.{sum_by-cons}
use Rattle.std.proofs.lemmas.List.Sorted.{sum_by-IsPermutation}
use Rattle.sums.specs.Totals.{total}

pub total-append : {X : Type 0} (f : X → ℤ) (xs ys : List X) → total f (xs ++ ys) ≡ total f xs +ℤ total f ys
total-append f [] ys = omega (arith, ints)
total-append f (x ∷ xs) ys = omega (arith, ints, total-append f xs ys)

pub total-add : {X : Type 0} (f g : X → ℤ) (xs : List X) → total (λ x. f x +ℤ g x) xs ≡ total f xs +ℤ total g xs
total-add f g [] = refl
total-add f g (x ∷ xs) = omega (arith, ints, total-add f g xs)

pub total-neg : {X : Type 0} (f : X → ℤ) (xs : List X) → total (λ x. neg_ℤ (f x)) xs ≡ neg_ℤ (total f xs)
total-neg f [] = refl
total-neg f (x ∷ xs) = omega (arith, ints, total-neg f xs)

pub total-zero : {X : Type 0} (xs : List X) → total (λ _. pos 0) xs ≡ pos 0
total-zero [] = refl
total-zero (x ∷ xs) = omega (arith, ints, total-zero xs)

-- two functions that agree everywhere have one sum
pub total-same : {X : Type 0} (f g : X → ℤ) → ((x : X) → f x ≡ g x) → (xs : List X) → total f xs ≡ total g xs
total-same f g same [] = refl
total-same f g same (x ∷ xs) = omega (arith, ints, same x, total-same f g same xs)

pub total-map : {X Y : Type 0} (f : Y → ℤ) (g : X → Y) (xs : List X) → total f (map g xs) ≡ total (λ x. f (g x)) xs
total-map f g [] = refl
total-map f g (x ∷ xs) = omega (arith, ints, total-map f g xs)

pub total-flat_map : {X Y : Type 0} (f : Y → ℤ) (g : X → List Y) (xs : List X) → total f (flat_map g xs) ≡ total (λ x. total f (g x)) xs
total-flat_map f g [] = refl
total-flat_map f g (x ∷ xs) = omega (arith, ints, total-append f (g x) (flat_map g xs), total-flat_map f g xs)

kept_or_not : {X : Type 0} (f : X → ℤ) (b : Bool) (x : X) (xs : List X) → total f (cond b (x ∷ xs) xs) ≡ cond b (f x) (pos 0) +ℤ total f xs
kept_or_not f true x xs = refl
kept_or_not f false x xs = omega (arith, ints)

-- what a filter drops counts as 0
pub total-filter : {X : Type 0} (f : X → ℤ) (p : X → Bool) (xs : List X) → total f (filter p xs) ≡ total (λ x. cond (p x) (f x) (pos 0)) xs
total-filter f p [] = refl
total-filter f p (x ∷ xs) = kept_or_not f (p x) x (filter p xs) ∙ ap (λ s. cond (p x) (f x) (pos 0) +ℤ s) (total-filter f p xs)

-- a double sum may be taken in either order
pub total-total : {X Y : Type 0} (f : X → Y → ℤ) (xs : List X) (ys : List Y) → total (λ x. total (f x) ys) xs ≡ total (λ y. total (λ x. f x y) xs) ys
total-total f [] ys = sym (total-zero ys)
total-total f (x ∷ xs) ys = omega (arith, ints, total-total f xs ys, total-add (f x) (λ y. total (λ x. f x y) xs) ys)

-- one element more
pub total_more : {X : Type 0} (f : X → ℤ) (xs : List X) (i : ℕ) (d : X) → i < length xs → total f (take (i + 1) xs) ≡ total f (take i xs) +ℤ f (get_or xs i d)
total_more f xs i d lt = ap (total f) (take_more xs i d lt) ∙ omega (arith, ints, total-append f (take i xs) (get_or xs i d ∷ []))

-- the step of a loop that adds f of each element
pub total_step : {X : Type 0} (f : X → ℤ) (xs : List X) (i : ℕ) (d : X) (sum r : ℤ) → i < length xs → sum ≡ total f (take i xs) → r ≡ f (get_or xs i d) → sum +ℤ r ≡ total f (take (i + 1) xs)
total_step f xs i d sum r lt so here = omega (arith, ints, total_more f xs i d lt)

-- a sum of signed numbers is a difference of two sums of natural numbers
pub total-parts : {X : Type 0} (f : X → ℤ) (xs : List X) → total f xs +ℤ pos (sum_by (λ x. down (f x)) xs) ≡ pos (sum_by (λ x. up (f x)) xs)
total-parts f [] = omega (arith, ints)
total-parts f (x ∷ xs) = omega (arith, ints, total-parts f xs, sum_by-cons (λ x. down (f x)) x xs, sum_by-cons (λ x. up (f x)) x xs)

-- the order of the elements does not matter
pub total-IsPermutation : {X : Type 0} (f : X → ℤ) (xs ys : List X) → IsPermutation xs ys → total f ys ≡ total f xs
total-IsPermutation f xs ys p = omega (arith, ints, total-parts f xs, total-parts f ys, sum_by-IsPermutation (λ x. down (f x)) xs ys p, sum_by-IsPermutation (λ x. up (f x)) xs ys p)
