-- Maps, filters and lists of lists, and what they do to lists in another order.
use Rattle.std.proofs.Common.{◌≡◌, ◌++◌, ◌&&◌, ◌<◌, Bool, true, false, cond, ℕ, zero, suc, List, [], ◌∷◌, length, get_or, map, filter, flat_map, IsPermutation, append_assoc, refl, sym, ap, subst, ◌∙◌, arith}
use Rattle.std.specs.List.{All, swap}
use Rattle.std.proofs.Math.ListN.{set}
use Rattle.std.proofs.lemmas.List.{map-append}
use Rattle.std.proofs.lemmas.List.Concat.{flat_map-append}
use Rattle.std.proofs.lemmas.List.Elements.{All-head, All-tail, All-nil, All-append, All-map, All-weaker, filter-append}
use Rattle.std.proofs.lemmas.List.Sorted.{IsPermutation-refl, IsPermutation-trans, IsPermutation-cons, IsPermutation-append_left, IsPermutation-append_right, IsPermutation-append_comm, IsPermutation-keeps}
use Rattle.sums.specs.Totals.{half}

module _ {X Y : Type 0} (h : X → List Y) where
  two_heads : (x z : X) (l : List X) → IsPermutation (flat_map h (x ∷ z ∷ l)) (flat_map h (z ∷ x ∷ l))
  two_heads x z l = rw (← append_assoc (h x) (h z) (flat_map h l), ← append_assoc (h z) (h x) (flat_map h l)) (IsPermutation-append_left (flat_map h l) _ _ (IsPermutation-append_comm (h x) (h z)))

  one_head : (z : X) (l m : List X) → IsPermutation (flat_map h l) (flat_map h m) → IsPermutation (flat_map h (z ∷ l)) (flat_map h (z ∷ m))
  one_head z l m p = IsPermutation-append_right (h z) _ _ p

  exchanged : (x d : X) (l : List X) (j : ℕ) → j < length l → IsPermutation (flat_map h (x ∷ l)) (flat_map h (get_or l j d ∷ set l j x))
  exchanged x d [] j lt = absurd (omega arith)
  exchanged x d (z ∷ l) zero lt = two_heads x z l
  exchanged x d (z ∷ l) (suc j) lt = IsPermutation-trans _ _ _ (two_heads x z l) (IsPermutation-trans _ _ _ (one_head z (x ∷ l) (get_or l j d ∷ set l j x) (exchanged x d l j (omega arith))) (two_heads z (get_or l j d) (set l j x)))

  swapped : (d : X) (l : List X) (i j : ℕ) → i < length l → j < length l → IsPermutation (flat_map h l) (flat_map h (set (set l i (get_or l j d)) j (get_or l i d)))
  swapped d [] i j a b = absurd (omega arith)
  swapped d (z ∷ l) zero zero a b = IsPermutation-refl _
  swapped d (z ∷ l) zero (suc j) a b = exchanged z d l j (omega arith)
  swapped d (z ∷ l) (suc i) zero a b = exchanged z d l i (omega arith)
  swapped d (z ∷ l) (suc i) (suc j) a b = one_head z l (set (set l i (get_or l j d)) j (get_or l i d)) (swapped d l i j (omega arith) (omega arith))

  keep_one : (xs l : List X) (i j : ℕ) → i < length l → j < length l → IsPermutation (flat_map h xs) (flat_map h l) → IsPermutation (flat_map h xs) (flat_map h (swap l i j))
  keep_one xs [] i j a b e = absurd (omega arith)
  keep_one xs (z ∷ l) i j a b e = IsPermutation-trans _ _ _ e (swapped z (z ∷ l) i j a b)

  pub IsPermutation-flat_map : (xs ys : List X) → IsPermutation xs ys → IsPermutation (flat_map h xs) (flat_map h ys)
  IsPermutation-flat_map xs ys p = IsPermutation-keeps xs (λ l. IsPermutation (flat_map h xs) (flat_map h l)) (IsPermutation-refl _) (λ l i j a b e. keep_one xs l i j a b e) ys p

module _ {X : Type 0} where
  filter_is : (p : X → Bool) (xs : List X) → flat_map (λ x. cond (p x) (x ∷ []) []) xs ≡ filter p xs
  filter_is p [] = refl
  filter_is p (x ∷ xs) = by_test (p x) (filter_is p xs)
    where
      by_test : (b : Bool) → flat_map (λ y. cond (p y) (y ∷ []) []) xs ≡ filter p xs → cond b (x ∷ []) [] ++ flat_map (λ y. cond (p y) (y ∷ []) []) xs ≡ cond b (x ∷ filter p xs) (filter p xs)
      by_test true e = ap (λ (l : List X). x ∷ l) e
      by_test false e = e

  pub IsPermutation-filter : (p : X → Bool) (xs ys : List X) → IsPermutation xs ys → IsPermutation (filter p xs) (filter p ys)
  IsPermutation-filter p xs ys h = rw (← filter_is p xs, ← filter_is p ys) (IsPermutation-flat_map (λ x. cond (p x) (x ∷ []) []) xs ys h)

  -- equal lists are permutations
  pub same_permutation : (xs ys : List X) → xs ≡ ys → IsPermutation xs ys
  same_permutation xs ys e = subst (IsPermutation xs) e (IsPermutation-refl xs)

  pub permutation_along : (xs xs' ys ys' : List X) → xs ≡ xs' → ys ≡ ys' → IsPermutation xs' ys' → IsPermutation xs ys
  permutation_along xs xs' ys ys' e f h = rw (e, f) h

  -- tests that agree on all elements
  pub filter_same : (p q : X → Bool) (xs : List X) → All (λ x. p x ≡ q x) xs → filter p xs ≡ filter q xs
  filter_same p q [] all = refl
  filter_same p q (x ∷ xs) all =
      let e : p x ≡ q x = All-head (λ y. p y ≡ q y) x xs all in
      let rest = filter_same p q xs (All-tail (λ y. p y ≡ q y) x xs all) in
      rw (e, rest) refl

  pub filter_none : (p : X → Bool) (xs : List X) → All (λ x. p x ≡ false) xs → filter p xs ≡ []
  filter_none p [] all = refl
  filter_none p (x ∷ xs) all =
      let e : p x ≡ false = All-head (λ y. p y ≡ false) x xs all in
      rw e (filter_none p xs (All-tail (λ y. p y ≡ false) x xs all))

  -- a filter of a filter
  pub filter-filter : (p q : X → Bool) (xs : List X) → filter p (filter q xs) ≡ filter (λ x. q x && p x) xs
  filter-filter p q [] = refl
  filter-filter p q (x ∷ xs) = by_test (q x) (filter-filter p q xs)
    where
      by_test : (b : Bool) → filter p (filter q xs) ≡ filter (λ y. q y && p y) xs → filter p (cond b (x ∷ filter q xs) (filter q xs)) ≡ cond (b && p x) (x ∷ filter (λ y. q y && p y) xs) (filter (λ y. q y && p y) xs)
      by_test true e = ap (λ (l : List X). cond (p x) (x ∷ l) l) e
      by_test false e = e

  pub All-each : (P : X → Type 0) → ((x : X) → P x) → (xs : List X) → All P xs
  All-each P h xs = λ k d lt. h (get_or xs k d)

-- the first of each part may stand before all others
first_of_each : {X Y Z : Type 0} (f : X → Y → Z) (x : X) (xs : List X) (ys : List Y) → IsPermutation (map (λ y. f x y) ys ++ flat_map (λ y. map (λ z. f z y) xs) ys) (flat_map (λ y. map (λ z. f z y) (x ∷ xs)) ys)
first_of_each f x xs [] = IsPermutation-refl []
first_of_each {Z = Z} f x xs (y ∷ ys) =
    let row : List Z = map (λ z. f z y) xs in
    let others : List Z = flat_map (λ w. map (λ z. f z w) xs) ys in
    IsPermutation-cons (f x y) _ _
    (IsPermutation-trans _ (row ++ (map (λ w. f x w) ys ++ others)) _
    (permutation_along _ ((map (λ w. f x w) ys ++ row) ++ others) _ ((row ++ map (λ w. f x w) ys) ++ others)
    (sym (append_assoc (map (λ w. f x w) ys) row others)) (sym (append_assoc row (map (λ w. f x w) ys) others))
    (IsPermutation-append_left others _ _ (IsPermutation-append_comm (map (λ w. f x w) ys) row)))
    (IsPermutation-append_right row _ _ (first_of_each f x xs ys)))

module _ {X Y : Type 0} where
  pub flat_map_same : (f g : X → List Y) (xs : List X) → All (λ x. f x ≡ g x) xs → flat_map f xs ≡ flat_map g xs
  flat_map_same f g [] all = refl
  flat_map_same f g (x ∷ xs) all =
      let e : f x ≡ g x = All-head (λ y. f y ≡ g y) x xs all in
      let rest = flat_map_same f g xs (All-tail (λ y. f y ≡ g y) x xs all) in
      rw (e, rest) refl

  pub flat_map_each : (f g : X → List Y) (xs : List X) → All (λ x. IsPermutation (f x) (g x)) xs → IsPermutation (flat_map f xs) (flat_map g xs)
  flat_map_each f g [] all = IsPermutation-refl []
  flat_map_each f g (x ∷ xs) all =
      IsPermutation-trans _ (f x ++ flat_map g xs) _
      (IsPermutation-append_right (f x) _ _ (flat_map_each f g xs (All-tail (λ y. IsPermutation (f y) (g y)) x xs all)))
      (IsPermutation-append_left (flat_map g xs) _ _ (All-head (λ y. IsPermutation (f y) (g y)) x xs all))

  pub flat_map_none : (f : X → List Y) (xs : List X) → All (λ x. f x ≡ []) xs → flat_map f xs ≡ []
  flat_map_none f [] all = refl
  flat_map_none f (x ∷ xs) all =
      let e : f x ≡ [] = All-head (λ y. f y ≡ []) x xs all in
      rw e (flat_map_none f xs (All-tail (λ y. f y ≡ []) x xs all))

  pub filter-flat_map : (p : Y → Bool) (f : X → List Y) (xs : List X) → filter p (flat_map f xs) ≡ flat_map (λ x. filter p (f x)) xs
  filter-flat_map p f [] = refl
  filter-flat_map p f (x ∷ xs) = filter-append p (f x) (flat_map f xs) ∙ ap (λ (l : List Y). filter p (f x) ++ l) (filter-flat_map p f xs)

  pub filter-map : (p : Y → Bool) (f : X → Y) (xs : List X) → filter p (map f xs) ≡ map f (filter (λ x. p (f x)) xs)
  filter-map p f [] = refl
  filter-map p f (x ∷ xs) = by_test (p (f x)) (filter-map p f xs)
    where
      by_test : (b : Bool) → filter p (map f xs) ≡ map f (filter (λ y. p (f y)) xs) → cond b (f x ∷ filter p (map f xs)) (filter p (map f xs)) ≡ map f (cond b (x ∷ filter (λ y. p (f y)) xs) (filter (λ y. p (f y)) xs))
      by_test true e = ap (λ (l : List Y). f x ∷ l) e
      by_test false e = e

  pub map_same : (f g : X → Y) (xs : List X) → All (λ x. f x ≡ g x) xs → map f xs ≡ map g xs
  map_same f g [] all = refl
  map_same f g (x ∷ xs) all =
      let e : f x ≡ g x = All-head (λ y. f y ≡ g y) x xs all in
      let rest = map_same f g xs (All-tail (λ y. f y ≡ g y) x xs all) in
      rw (e, rest) refl

  -- only what passes counts
  pub flat_map-filter : (p : X → Bool) (f : X → List Y) (xs : List X) → flat_map (λ x. cond (p x) (f x) []) xs ≡ flat_map f (filter p xs)
  flat_map-filter p f [] = refl
  flat_map-filter p f (x ∷ xs) = by_test (p x) (flat_map-filter p f xs)
    where
      by_test : (b : Bool) → flat_map (λ y. cond (p y) (f y) []) xs ≡ flat_map f (filter p xs) → cond b (f x) [] ++ flat_map (λ y. cond (p y) (f y) []) xs ≡ flat_map f (cond b (x ∷ filter p xs) (filter p xs))
      by_test true e = ap (λ (l : List Y). f x ++ l) e
      by_test false e = e

  pub All-flat_map : (P : Y → Type 0) (f : X → List Y) (xs : List X) → All (λ x. All P (f x)) xs → All P (flat_map f xs)
  All-flat_map P f [] all = All-nil P
  All-flat_map P f (x ∷ xs) all = All-append P (f x) (flat_map f xs) (All-head (λ y. All P (f y)) x xs all) (All-flat_map P f xs (All-tail (λ y. All P (f y)) x xs all))

  -- a product of two lists may be taken either way
  pub exchange : {Z : Type 0} (f : X → Y → Z) (xs : List X) (ys : List Y) → IsPermutation (flat_map (λ x. map (λ y. f x y) ys) xs) (flat_map (λ y. map (λ x. f x y) xs) ys)
  exchange f [] ys = same_permutation _ _ (sym (flat_map_empty ys))
    where
      flat_map_empty : (l : List Y) → flat_map (λ y. map (λ x. f x y) []) l ≡ []
      flat_map_empty [] = refl
      flat_map_empty (y ∷ l) = flat_map_empty l
  exchange f (x ∷ xs) ys =
      IsPermutation-trans _ (map (λ y. f x y) ys ++ flat_map (λ y. map (λ z. f z y) xs) ys) _
      (IsPermutation-append_right (map (λ y. f x y) ys) _ _ (exchange f xs ys))
      (first_of_each f x xs ys)

-- maps of maps, of lists of lists and of pairs
pub map-map : {X Y Z : Type 0} (f : Y → Z) (g : X → Y) (xs : List X) → map f (map g xs) ≡ map (λ x. f (g x)) xs
map-map f g [] = refl
map-map f g (x ∷ xs) = ap (λ (l : List _). f (g x) ∷ l) (map-map f g xs)

pub map-flat_map : {X Y Z : Type 0} (g : Y → Z) (f : X → List Y) (xs : List X) → map g (flat_map f xs) ≡ flat_map (λ x. map g (f x)) xs
map-flat_map g f [] = refl
map-flat_map g f (x ∷ xs) = map-append g (f x) (flat_map f xs) ∙ ap (λ (l : List _). map g (f x) ++ l) (map-flat_map g f xs)

pub flat_map-flat_map : {X Y Z : Type 0} (g : Y → List Z) (f : X → List Y) (xs : List X) → flat_map g (flat_map f xs) ≡ flat_map (λ x. flat_map g (f x)) xs
flat_map-flat_map g f [] = refl
flat_map-flat_map g f (x ∷ xs) = flat_map-append g (f x) (flat_map f xs) ∙ ap (λ (l : List _). flat_map g (f x) ++ l) (flat_map-flat_map g f xs)

abbrev pub both : {X Y : Type 0} → (X → Y) → X × X → Y × Y
both f p = (f p.0, f p.1)

pub half-map : {X Y : Type 0} (f : X → Y) (xs : List X) → half (map f xs) ≡ map (both f) (half xs)
half-map f [] = refl
half-map f (x ∷ xs) =
    ap (λ (l : List _). l ++ half (map f xs)) (map-map (λ y. (f x, y)) f xs ∙ sym (map-map (both f) (λ y. (x, y)) xs))
    ∙ ap (λ (l : List _). map (both f) (map (λ y. (x, y)) xs) ++ l) (half-map f xs)
    ∙ sym (map-append (both f) (map (λ y. (x, y)) xs) (half xs))

-- what holds of all elements holds of both of each pair
pub All-half : {X : Type 0} (P : X → Type 0) (xs : List X) → All P xs → All (λ p. P p.0 × P p.1) (half xs)
All-half P [] all = All-nil (λ p. P p.0 × P p.1)
All-half P (x ∷ xs) all =
    All-append (λ p. P p.0 × P p.1) (map (λ y. (x, y)) xs) (half xs)
    (All-map (λ p. P p.0 × P p.1) (λ y. (x, y)) xs (All-weaker P (λ y. P x × P y) (λ y h. (All-head P x xs all, h)) xs (All-tail P x xs all)))
    (All-half P xs (All-tail P x xs all))
