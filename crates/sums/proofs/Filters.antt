-- Lists taken apart by tests: filters, and permutations of them.
use Rattle.std.proofs.Common.{◌≡◌, ◌≢◌, ◌+◌, ◌<◌, ◌≤◌, ◌==◌, ◌||◌, Bool, true, false, cond, ℕ, zero, suc, List, [], ◌∷◌, ◌++◌, map, flat_map, reverse, filter, IsPermutation, refl, sym, ap, subst, ◌∙◌, arith}
use Rattle.std.specs.List.{range_with_len}
use Rattle.std.proofs.lemmas.Bool.Decides.{nat_tests}
use Rattle.std.proofs.lemmas.List.{reverse-append}
use Rattle.std.proofs.lemmas.List.Elements.{filter-append}
use Rattle.sums.proofs.Lists.{All-each, filter_none, flat_map_each}
use Rattle.std.proofs.lemmas.List.Sorted.{IsPermutation-refl, IsPermutation-sym, IsPermutation-cons, IsPermutation-trans, IsPermutation-append, IsPermutation-middle}

-- a list of lists, made of another list and joined
pub flat_map-map : {X Y A : Type 0} (h : Y → List A) (f : X → Y) (xs : List X) → flat_map h (map f xs) ≡ flat_map (λ x. h (f x)) xs
flat_map-map h f [] = refl
flat_map-map h f (x ∷ xs) = ap (λ rest. h (f x) ++ rest) (flat_map-map h f xs)

pub filter_nothing : {X : Type 0} (p : X → Bool) (xs : List X) → ((x : X) → p x ≡ false) → filter p xs ≡ []
filter_nothing p xs none = filter_none p xs (All-each (λ x. p x ≡ false) none xs)

pub filter_everything : {X : Type 0} (p : X → Bool) (xs : List X) → ((x : X) → p x ≡ true) → filter p xs ≡ xs
filter_everything p [] all = refl
filter_everything p (x ∷ xs) all = rw (all x) (ap (λ rest. x ∷ rest) (filter_everything p xs all))

-- of what passes one test, what passes another
kept_same : {X : Type 0} (p : X → Bool) (b : Bool) (x : X) (rest : List X) → p x ≡ b → filter p rest ≡ rest → filter p (cond b (x ∷ rest) rest) ≡ cond b (x ∷ rest) rest
kept_same p true x rest passes e = rw passes (ap (λ l. x ∷ l) e)
kept_same p false x rest passes e = e

pub filter_again : {X : Type 0} (p : X → Bool) (xs : List X) → filter p (filter p xs) ≡ filter p xs
filter_again p [] = refl
filter_again p (x ∷ xs) = kept_same p (p x) x (filter p xs) refl (filter_again p xs)

kept_none : {X : Type 0} (p : X → Bool) (b : Bool) (x : X) (rest : List X) → (b ≡ true → p x ≡ false) → filter p rest ≡ [] → filter p (cond b (x ∷ rest) rest) ≡ []
kept_none p true x rest apart e = rw (apart refl) e
kept_none p false x rest apart e = e

pub filter_apart : {X : Type 0} (p q : X → Bool) (xs : List X) → ((x : X) → q x ≡ true → p x ≡ false) → filter p (filter q xs) ≡ []
filter_apart p q [] apart = refl
filter_apart p q (x ∷ xs) apart = kept_none p (q x) x (filter q xs) (apart x) (filter_apart p q xs apart)

cond_alone : {X : Type 0} (b : Bool) (x : X) → reverse (cond b (x ∷ []) []) ≡ cond b (x ∷ []) []
cond_alone true x = refl
cond_alone false x = refl

cond_front : {X : Type 0} (b : Bool) (x : X) (rest : List X) → cond b (x ∷ rest) rest ≡ cond b (x ∷ []) [] ++ rest
cond_front true x rest = refl
cond_front false x rest = refl

reverse_front : {X : Type 0} (x : X) (xs : List X) → reverse (x ∷ xs) ≡ reverse xs ++ x ∷ []
reverse_front x xs = reverse-append (x ∷ []) xs

pub filter-reverse : {X : Type 0} (p : X → Bool) (xs : List X) → filter p (reverse xs) ≡ reverse (filter p xs)
filter-reverse p [] = refl
filter-reverse p (x ∷ xs) =
    ap (filter p) (reverse_front x xs)
    ∙ filter-append p (reverse xs) (x ∷ [])
    ∙ ap (λ front. front ++ cond (p x) (x ∷ []) []) (filter-reverse p xs)
    ∙ ap (λ back. reverse (filter p xs) ++ back) (sym (cond_alone (p x) x))
    ∙ sym (reverse-append (cond (p x) (x ∷ []) []) (filter p xs))
    ∙ ap reverse (sym (cond_front (p x) x (filter p xs)))

-- each part in another order
pub IsPermutation-flat_map_each : {X A : Type 0} (f g : X → List A) (xs : List X) → ((x : X) → IsPermutation (f x) (g x)) → IsPermutation (flat_map f xs) (flat_map g xs)
IsPermutation-flat_map_each f g xs each = flat_map_each f g xs (All-each (λ x. IsPermutation (f x) (g x)) each xs)

-- two tests that exclude each other, and a third that is one or the other
module _ {X : Type 0} (a b either : X → Bool) where
  one_more : (x : X) (xs : List X) (p q r : Bool) → (p ≡ true → (q ≡ false) × (r ≡ true)) → (p ≡ false → r ≡ q)
      → IsPermutation (filter either xs) (filter a xs ++ filter b xs)
      → IsPermutation (cond r (x ∷ filter either xs) (filter either xs)) (cond p (x ∷ filter a xs) (filter a xs) ++ cond q (x ∷ filter b xs) (filter b xs))
  one_more x xs true true r takes leaves h = let e = (takes refl).0 in cc
  one_more x xs true false true takes leaves h = IsPermutation-cons x (filter either xs) (filter a xs ++ filter b xs) h
  one_more x xs true false false takes leaves h = let e = (takes refl).1 in cc
  one_more x xs false true true takes leaves h =
      IsPermutation-trans (x ∷ filter either xs) (x ∷ (filter a xs ++ filter b xs)) (filter a xs ++ x ∷ filter b xs)
      (IsPermutation-cons x (filter either xs) (filter a xs ++ filter b xs) h)
      (IsPermutation-sym (filter a xs ++ x ∷ filter b xs) (x ∷ (filter a xs ++ filter b xs)) (IsPermutation-middle (filter a xs) x (filter b xs)))
  one_more x xs false true false takes leaves h = let e = leaves refl in cc
  one_more x xs false false true takes leaves h = let e = leaves refl in cc
  one_more x xs false false false takes leaves h = h

  pub IsPermutation-filter_or : (xs : List X) → ((x : X) → a x ≡ true → (b x ≡ false) × (either x ≡ true)) → ((x : X) → a x ≡ false → either x ≡ b x)
      → IsPermutation (filter either xs) (filter a xs ++ filter b xs)
  IsPermutation-filter_or [] takes leaves = IsPermutation-refl []
  IsPermutation-filter_or (x ∷ xs) takes leaves = one_more x xs (a x) (b x) (either x) (takes x) (leaves x) (IsPermutation-filter_or xs takes leaves)

-- some number of a range passes
abbrev pub some_of : (ℕ → Bool) → ℕ → ℕ → Bool
some_of p k zero = false
some_of p k (suc n) = p k || some_of p (k + 1) n

or_true : (b c : Bool) → c ≡ true → (b || c) ≡ true
or_true true c h = refl
or_true false c h = h

or_first : (b c : Bool) → b ≡ true → (b || c) ≡ true
or_first true c h = refl
or_first false c h = cc

or_second : (b c : Bool) → b ≡ false → (b || c) ≡ c
or_second true c h = cc
or_second false c h = refl

pub some_from : (p : ℕ → Bool) (k n i : ℕ) → k ≤ i → i < k + n → p i ≡ true → some_of p k n ≡ true
some_from p k zero i lo hi h = absurd (omega arith)
some_from p k (suc n) i lo hi h =
    elim (k == i) as (λ t. (k == i) ≡ t → some_of p k (suc n) ≡ true) [
      | true ↦ λ e. or_first (p k) (some_of p (k + 1) n) (let s : k ≡ i = grind (arith, nat_tests) in ap p s ∙ h)
      | false ↦ λ e. or_true (p k) (some_of p (k + 1) n) (some_from p (k + 1) n i (grind (arith, nat_tests)) (omega arith) h)
    ]
    refl

pub none_of : (p : ℕ → Bool) (k n : ℕ) → ((i : ℕ) → k ≤ i → i < k + n → p i ≡ false) → some_of p k n ≡ false
none_of p k zero none = refl
none_of p k (suc n) none = or_second (p k) (some_of p (k + 1) n) (none k (omega arith) (omega arith)) ∙ none_of p (k + 1) n (λ i lo hi. none i (omega arith) (omega arith))

-- what has one of several keys, no two of them alike, is what has the first, with what has the second, and so on
module _ {X : Type 0} (key : X → ℕ) (g : ℕ → ℕ) where
  abbrev pub has_one_of : ℕ → ℕ → X → Bool
  has_one_of k n x = some_of (λ i. key x == g i) k n

  pub among : (xs : List X) (k n : ℕ) → ((i j : ℕ) → k ≤ i → i < j → j < k + n → g i ≢ g j)
      → IsPermutation (filter (has_one_of k n) xs) (flat_map (λ i. filter (λ x. key x == g i) xs) (range_with_len k n))
  among xs k zero apart = subst (λ l. IsPermutation l []) (sym (filter_nothing (has_one_of k zero) xs (λ x. refl))) (IsPermutation-refl [])
  among xs k (suc n) apart =
      IsPermutation-trans (filter (has_one_of k (suc n)) xs) (filter (λ x. key x == g k) xs ++ filter (has_one_of (k + 1) n) xs) (flat_map (λ i. filter (λ x. key x == g i) xs) (range_with_len k (suc n)))
      (IsPermutation-filter_or (λ x. key x == g k) (has_one_of (k + 1) n) (has_one_of k (suc n)) xs
      (λ x h. (none_of (λ i. key x == g i) (k + 1) n (λ i lo hi. let ne = apart k i (omega arith) (omega arith) (omega arith) in grind (arith, nat_tests)), or_first (key x == g k) (has_one_of (k + 1) n x) h))
      (λ x h. or_second (key x == g k) (has_one_of (k + 1) n x) h))
      (IsPermutation-append (filter (λ x. key x == g k) xs) (filter (λ x. key x == g k) xs) (filter (has_one_of (k + 1) n) xs) (flat_map (λ i. filter (λ x. key x == g i) xs) (range_with_len (k + 1) n))
      (IsPermutation-refl (filter (λ x. key x == g k) xs))
      (among xs (k + 1) n (λ i j lo lt hi. apart i j (omega arith) lt (omega arith))))
