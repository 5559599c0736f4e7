-- Lists that a loop changes place by place, and how large sums are.
use Rattle.std.proofs.Common.{◌≡◌, ◌<◌, ◌≤◌, ◌+◌, ℕ, zero, suc, ℤ, pos, ◌+ℤ◌, All, List, [], ◌∷◌, length, get_or, set, refl, sym, ◌∙◌, ap, arith, add-one}
use Rattle.std.proofs.lemmas.Int.{ints}
use Rattle.std.proofs.lemmas.List.Elements.{All-cons, All-head, All-nil, All-tail, All-weaker}
use Rattle.fx_num.specs.Rounding.{div_rounded}
use Rattle.ave_time.specs.Windows.{IsSmall, averages_of, plus}

-- the first n places of a list are changed by those of another
abbrev pub changed : (ℤ → ℤ → ℤ) → ℕ → List ℤ → List ℤ → List ℤ
changed f zero xs ys = xs
changed f (suc n) [] ys = []
changed f (suc n) (x ∷ xs) [] = x ∷ xs
changed f (suc n) (x ∷ xs) (y ∷ ys) = f x y ∷ changed f n xs ys

module _ (f : ℤ → ℤ → ℤ) where
  pub length-changed : (n : ℕ) (xs ys : List ℤ) → length (changed f n xs ys) ≡ length xs
  length-changed zero xs ys = refl
  length-changed (suc n) [] ys = refl
  length-changed (suc n) (x ∷ xs) [] = refl
  length-changed (suc n) (x ∷ xs) (y ∷ ys) = ap suc (length-changed n xs ys)

  -- the next place is still as it was
  pub get_or-changed : (n : ℕ) (xs ys : List ℤ) (d : ℤ) → get_or (changed f n xs ys) n d ≡ get_or xs n d
  get_or-changed zero xs ys d = refl
  get_or-changed (suc n) [] ys d = refl
  get_or-changed (suc n) (x ∷ xs) [] d = refl
  get_or-changed (suc n) (x ∷ xs) (y ∷ ys) d = get_or-changed n xs ys d

  -- one place more
  more : (n : ℕ) (xs ys : List ℤ) (d e : ℤ) → n < length xs → n < length ys → set (changed f n xs ys) n (f (get_or xs n d) (get_or ys n e)) ≡ changed f (suc n) xs ys
  more zero [] ys d e h k = absurd (omega (arith, h))
  more zero (x ∷ xs) [] d e h k = absurd (omega (arith, k))
  more zero (x ∷ xs) (y ∷ ys) d e h k = refl
  more (suc n) [] ys d e h k = refl
  more (suc n) (x ∷ xs) [] d e h k = absurd (omega (arith, k))
  more (suc n) (x ∷ xs) (y ∷ ys) d e h k = ap (λ zs. f x y ∷ zs) (more n xs ys d e (omega (arith, h)) (omega (arith, k)))

  pub changed_more : (n : ℕ) (xs ys : List ℤ) (d e : ℤ) → n < length xs → n < length ys → set (changed f n xs ys) n (f (get_or xs n d) (get_or ys n e)) ≡ changed f (n + 1) xs ys
  changed_more n xs ys d e h k = more n xs ys d e h k ∙ ap (λ m. changed f m xs ys) (sym (add-one n))

  -- where the places before i are changed, the next is as it was
  pub as_was : (list xs ys : List ℤ) (i : ℕ) (d : ℤ) → list ≡ changed f i xs ys → get_or list i d ≡ get_or xs i d
  as_was list xs ys i d is = ap (λ l. get_or l i d) is ∙ get_or-changed i xs ys d

  -- and when it is changed too, the places before i + 1 are
  pub changed_step : (list xs ys : List ℤ) (i : ℕ) (d v : ℤ) → list ≡ changed f i xs ys → i < length xs → i < length ys → v ≡ f (get_or list i d) (get_or ys i d) → set list i v ≡ changed f (i + 1) xs ys
  changed_step list xs ys i d v is h k e = (λ j. set (is j) i ((e ∙ ap (λ z. f z (get_or ys i d)) (as_was list xs ys i d is)) j)) ∙ changed_more i xs ys d d h k

-- all places of as many values
pub all_added : (xs ys : List ℤ) → length ys ≡ length xs → changed (λ x y. x +ℤ y) (length xs) xs ys ≡ plus xs ys
all_added [] ys h = refl
all_added (x ∷ xs) [] h = absurd (omega (arith, h))
all_added (x ∷ xs) (y ∷ ys) h = ap (λ zs. (x +ℤ y) ∷ zs) (all_added xs ys (omega (arith, h)))

pub all_averaged : (repeat : ℕ) (xs ys : List ℤ) → length xs ≡ length ys → changed (λ x y. div_rounded y (pos repeat)) (length xs) xs ys ≡ averages_of repeat ys
all_averaged repeat [] [] h = refl
all_averaged repeat [] (y ∷ ys) h = absurd (omega (arith, h))
all_averaged repeat (x ∷ xs) [] h = absurd (omega (arith, h))
all_averaged repeat (x ∷ xs) (y ∷ ys) h = ap (λ zs. div_rounded y (pos repeat) ∷ zs) (all_averaged repeat xs ys (omega (arith, h)))

pub length-plus : (xs ys : List ℤ) → length (plus xs ys) ≡ length xs
length-plus [] ys = refl
length-plus (x ∷ xs) [] = refl
length-plus (x ∷ xs) (y ∷ ys) = ap suc (length-plus xs ys)

one_more : (n : ℕ) (x y : ℤ) → IsSmall n x → IsSmall 1 y → IsSmall (n + 1) (x +ℤ y)
one_more n x y h k = omega (arith, ints, h, k)

-- a sum of fewer samples is small for more
pub smaller : (n m : ℕ) (xs : List ℤ) → n ≤ m → All (IsSmall n) xs → All (IsSmall m) xs
smaller n m xs h all = All-weaker (IsSmall n) (IsSmall m) (λ x small. omega (arith, small, h)) xs all

-- sums with one sample more
pub small_plus : (n : ℕ) (xs ys : List ℤ) → All (IsSmall n) xs → All (IsSmall 1) ys → All (IsSmall (n + 1)) (plus xs ys)
small_plus n [] ys h k = All-nil (IsSmall (n + 1))
small_plus n (x ∷ xs) [] h k = smaller n (n + 1) (x ∷ xs) (omega arith) h
small_plus n (x ∷ xs) (y ∷ ys) h k =
    All-cons (IsSmall (n + 1)) (x +ℤ y) (plus xs ys) (one_more n x y (All-head (IsSmall n) x xs h) (All-head (IsSmall 1) y ys k)) (small_plus n xs ys (All-tail (IsSmall n) x xs h) (All-tail (IsSmall 1) y ys k))
