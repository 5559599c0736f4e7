-- Laws of the least of a list of words: of joined, filtered and rearranged lists.
use Rattle.std.proofs.Common.{◌≡◌, ◌<◌, ◌≤◌, ◌⊎◌, inl, inr, Bool, true, false, cond, min, ℕ, zero, suc, List, [], ◌∷◌, ◌++◌, length, get_or, map, flat_map, fold, filter, Contains, IsPermutation, refl, sym, ap, subst, ◌∙◌, arith}
use Rattle.std.proofs.lemmas.List.{map-append}
use Rattle.std.proofs.lemmas.List.Sorted.{Contains-permutation, IsPermutation-map, IsPermutation-sym}
use Rattle.box_geo.specs.Fault.{no_fault}
use Rattle.serial_step.specs.Forces.{least}

fold_min : (a b : ℕ) (xs : List ℕ) → fold min (min a b) xs ≡ min a (fold min b xs)
fold_min a b [] = refl
fold_min a b (x ∷ xs) = ap (λ (n : ℕ). fold min n xs) (associates a b x) ∙ fold_min a (min b x) xs
  where
    associates : (l m n : ℕ) → min (min l m) n ≡ min l (min m n)
    associates l m n = omega arith

exchanged : (m n : ℕ) → min m n ≡ min n m
exchanged m n = omega arith

pub least-cons : (x : ℕ) (xs : List ℕ) → least (x ∷ xs) ≡ min x (least xs)
least-cons x xs = ap (λ (n : ℕ). fold min n xs) (exchanged no_fault x) ∙ fold_min x no_fault xs

pub least-le : (xs : List ℕ) → least xs ≤ no_fault
least-le [] = omega arith
least-le (x ∷ xs) = omega (arith, least-cons x xs, least-le xs)

-- the least of two lists joined is the lesser of the two
pub least-append : (xs ys : List ℕ) → least (xs ++ ys) ≡ min (least xs) (least ys)
least-append [] ys = omega (arith, least-le ys)
least-append (x ∷ xs) ys = omega (arith, least-cons x (xs ++ ys), least-cons x xs, least-append xs ys)

-- no word is less, and it is the greatest number of which this is true
below_at : (xs : List ℕ) (k x : ℕ) → k < length xs → get_or xs k x ≡ x → least xs ≤ x
below_at [] k x lt is = absurd (omega arith)
below_at (y ∷ ys) zero x lt is = omega (arith, least-cons y ys)
below_at (y ∷ ys) (suc k) x lt is = omega (arith, least-cons y ys, below_at ys k x (omega arith) is)

pub least-below : (xs : List ℕ) (x : ℕ) → Contains xs x → least xs ≤ x
least-below xs x c = below_at xs c.0 x c.1 c.2

pub least-above : (m : ℕ) (xs : List ℕ) → m ≤ no_fault → ((x : ℕ) → Contains xs x → m ≤ x) → m ≤ least xs
least-above m [] low all = low
least-above m (x ∷ xs) low all =
    let first : m ≤ x = all x (0, omega arith, refl) in
    let rest : m ≤ least xs = least-above m xs low (λ y c. all y (suc c.0, omega (arith, c.1), c.2)) in
    omega (arith, least-cons x xs)

-- it is one of the words, or there is no fault
pub least-reached : (xs : List ℕ) → (least xs ≡ no_fault) ⊎ Contains xs (least xs)
least-reached [] = inl refl
least-reached (x ∷ xs) = by_least (lesser x (least xs)) (least-reached xs)
  where
    lesser : (m n : ℕ) → (min m n ≡ m) ⊎ (min m n ≡ n)
    lesser m n = grind arith

    by_least : (min x (least xs) ≡ x) ⊎ (min x (least xs) ≡ least xs) → (least xs ≡ no_fault) ⊎ Contains xs (least xs) → (least (x ∷ xs) ≡ no_fault) ⊎ Contains (x ∷ xs) (least (x ∷ xs))
    by_least (inl is) h = inr (0, omega arith, sym (least-cons x xs ∙ is))
    by_least (inr is) (inl none) = inl (least-cons x xs ∙ is ∙ none)
    by_least (inr is) (inr c) = let e : least xs ≡ least (x ∷ xs) = sym (least-cons x xs ∙ is) in inr (suc c.0, omega (arith, c.1), at_least e c.0 c.2)
      where
        at_least : {m n : ℕ} → m ≡ n → (k : ℕ) → get_or xs k m ≡ m → get_or xs k n ≡ n
        at_least e k h = let P : ℕ → Type 0 = λ n. get_or xs k n ≡ n in subst P e h

-- the order of the words does not matter
not_less : (xs ys : List ℕ) → IsPermutation xs ys → least xs ≤ least ys
not_less xs ys same = least-above (least xs) ys (least-le xs) (λ x c. least-below xs x (Contains-permutation ys xs x (IsPermutation-sym xs ys same) c))

pub least-IsPermutation : (xs ys : List ℕ) → IsPermutation xs ys → least ys ≡ least xs
least-IsPermutation xs ys same = omega (arith, not_less xs ys same, not_less ys xs (IsPermutation-sym xs ys same))

-- what a filter drops is no fault
kept_or_not : {X : Type 0} (word : X → ℕ) (b : Bool) (x : X) (xs : List X) → (b ≡ false → word x ≡ no_fault) → least (map word (cond b (x ∷ xs) xs)) ≡ min (word x) (least (map word xs))
kept_or_not word true x xs none = least-cons (word x) (map word xs)
kept_or_not word false x xs none = omega (arith, none refl, least-le (map word xs))

pub least-filter : {X : Type 0} (word : X → ℕ) (near : X → Bool) → ((x : X) → near x ≡ false → word x ≡ no_fault) → (xs : List X) → least (map word (filter near xs)) ≡ least (map word xs)
least-filter word near none [] = refl
least-filter word near none (x ∷ xs) =
    kept_or_not word (near x) x (filter near xs) (none x)
    ∙ ap (min (word x)) (least-filter word near none xs)
    ∙ sym (least-cons (word x) (map word xs))

-- by owners: the least of the least of each
pub least-flat_map : {X Y : Type 0} (word : Y → ℕ) (of : X → List Y) (xs : List X) → least (map word (flat_map of xs)) ≡ least (map (λ x. least (map word (of x))) xs)
least-flat_map word of [] = refl
least-flat_map word of (x ∷ xs) =
    ap least (map-append word (of x) (flat_map of xs))
    ∙ least-append (map word (of x)) (map word (flat_map of xs))
    ∙ ap (min (least (map word (of x)))) (least-flat_map word of xs)
    ∙ sym (least-cons (least (map word (of x))) (map (λ x. least (map word (of x))) xs))

-- of a list without what a filter drops, in any order
pub least-chosen : {X : Type 0} (word : X → ℕ) (near : X → Bool) → ((x : X) → near x ≡ false → word x ≡ no_fault) → (xs ys : List X) → IsPermutation (filter near xs) ys → least (map word xs) ≡ least (map word ys)
least-chosen word near none xs ys same =
    sym (least-filter word near none xs)
    ∙ sym (least-IsPermutation (map word (filter near xs)) (map word ys) (IsPermutation-map word (filter near xs) ys same))
