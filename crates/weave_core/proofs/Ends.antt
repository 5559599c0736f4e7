-- Sums and least numbers over all pieces, where the holders have each piece once.
use Rattle.std.proofs.Common.{◌≡◌, ℕ, zero, suc, ◌+◌, ◌≤◌, Bool, true, false, ltb, List, [], ◌∷◌, ◌++◌, length, get_or, take, ℤ, pos, ◌+ℤ◌, sum_by, refl, sym, ap, ◌∙◌, arith, le_antisymm, ltb-true, ltb-false, take_all}
use Rattle.std.proofs.lemmas.Int.{ints}
use borrow.Author.Differences.{up, down}
use Rattle.std.proofs.lemmas.List.{take_more}
use Rattle.std.proofs.lemmas.List.Sums.{sum_by-cons}
use Rattle.sums.specs.Totals.{total}
use Rattle.sums.proofs.Totals.{total-append, total_more, total-parts}
use Rattle.weave_core.specs.declared.part.Part.{Part}
use Rattle.weave_core.specs.declared.limits.TheConstants.{NO_KEY}
use Rattle.weave_core.specs.Parts.{numbers_below, least}
use Rattle.weave_core.specs.Agree.{HoldEachBelow}
use Rattle.weave_core.proofs.Lists.{least-le, least-append}

total_double : (f : ℕ → ℤ) (parts : List Part) → total (λ v. total f v.pieces) parts +ℤ pos (sum_by (λ v. sum_by (λ p. down (f p)) v.pieces) parts) ≡ pos (sum_by (λ v. sum_by (λ p. up (f p)) v.pieces) parts)
total_double f [] = omega (arith, ints)
total_double f (v ∷ vs) =
    omega (
      arith,
      ints,
      total_double f vs,
      total-parts f v.pieces,
      sum_by-cons (λ (u : Part). sum_by (λ p. down (f p)) u.pieces) v vs,
      sum_by-cons (λ (u : Part). sum_by (λ p. up (f p)) u.pieces) v vs,
    )

-- a sum over what each holder has is one over all numbers
pub total_of_all : (n : ℕ) (parts : List Part) → HoldEachBelow n parts → (f : ℕ → ℤ) → total (λ v. total f v.pieces) parts ≡ total f (numbers_below n)
total_of_all n parts once f = omega (arith, ints, total_double f parts, total-parts f (numbers_below n), once (λ p. down (f p)), once (λ p. up (f p)))

-- 1 where a test is passed
abbrev flag : Bool → ℕ
flag true = 1
flag false = 0

none_flagged : (a m : ℕ) → m ≤ a → flag (ltb a m) ≡ 0
none_flagged a m le = by_test (ltb a m) refl
  where
    by_test : (b : Bool) → ltb a m ≡ b → flag b ≡ 0
    by_test true is = absurd (omega (arith, ltb-true a m is))
    by_test false is = refl

not_flagged : (a m : ℕ) → flag (ltb a m) ≡ 0 → m ≤ a
not_flagged a m none = by_test (ltb a m) refl none
  where
    by_test : (b : Bool) → ltb a m ≡ b → flag b ≡ 0 → m ≤ a
    by_test true is one = absurd (omega (arith, one))
    by_test false is one = ltb-false a m is

module _ {X : Type 0} (g : X → ℕ) (m : ℕ) where
  none_below : (xs : List X) → m ≤ least g xs → sum_by (λ x. flag (ltb (g x) m)) xs ≡ 0
  none_below [] le = refl
  none_below (x ∷ xs) le = omega (arith, sum_by-cons (λ y. flag (ltb (g y) m)) x xs, none_flagged (g x) m (omega arith), none_below xs (omega arith))

  all_above : m ≤ NO_KEY → (xs : List X) → sum_by (λ x. flag (ltb (g x) m)) xs ≡ 0 → m ≤ least g xs
  all_above small [] none = small
  all_above small (x ∷ xs) none =
      let split : flag (ltb (g x) m) + sum_by (λ y. flag (ltb (g y) m)) xs ≡ 0 = omega (arith, none, sum_by-cons (λ y. flag (ltb (g y) m)) x xs) in
      omega (arith, not_flagged (g x) m (omega arith), all_above small xs (omega arith))

module _ (g : ℕ → ℕ) (m : ℕ) where
  none_held_below : (parts : List Part) → m ≤ least (λ v. least g v.pieces) parts → sum_by (λ v. sum_by (λ p. flag (ltb (g p) m)) v.pieces) parts ≡ 0
  none_held_below [] le = refl
  none_held_below (v ∷ vs) le = omega (arith, sum_by-cons (λ (u : Part). sum_by (λ p. flag (ltb (g p) m)) u.pieces) v vs, none_below g m v.pieces (omega arith), none_held_below vs (omega arith))

  all_held_above : m ≤ NO_KEY → (parts : List Part) → sum_by (λ v. sum_by (λ p. flag (ltb (g p) m)) v.pieces) parts ≡ 0 → m ≤ least (λ v. least g v.pieces) parts
  all_held_above small [] none = small
  all_held_above small (v ∷ vs) none =
      let split : sum_by (λ p. flag (ltb (g p) m)) v.pieces + sum_by (λ (u : Part). sum_by (λ p. flag (ltb (g p) m)) u.pieces) vs ≡ 0 = omega (arith, none, sum_by-cons (λ (u : Part). sum_by (λ p. flag (ltb (g p) m)) u.pieces) v vs) in
      omega (arith, all_above g m small v.pieces (omega arith), all_held_above small vs (omega arith))

-- the least over what each holder has is the least over all numbers
pub least_of_all : (n : ℕ) (parts : List Part) → HoldEachBelow n parts → (g : ℕ → ℕ) → least (λ v. least g v.pieces) parts ≡ least g (numbers_below n)
least_of_all n parts once g =
    let held : ℕ = least (λ (v : Part). least g v.pieces) parts in
    let all : ℕ = least g (numbers_below n) in
    le_antisymm
    (all_above g held (least-le (λ (v : Part). least g v.pieces) parts) (numbers_below n) (sym (once (λ p. flag (ltb (g p) held))) ∙ none_held_below g held parts (omega arith)))
    (all_held_above g all (least-le g (numbers_below n)) parts (once (λ p. flag (ltb (g p) all)) ∙ none_below g all (numbers_below n) (omega arith)))

-- by number, or by element
total_by_number : {X : Type 0} (f : X → ℤ) (xs : List X) (d : X) (n : ℕ) → n ≤ length xs → total (λ i. f (get_or xs i d)) (numbers_below n) ≡ total f (take n xs)
total_by_number f xs d zero le = refl
total_by_number f xs d (suc n) le =
    let e : suc n ≡ n + 1 = omega arith in
    let one_more : total f (take (suc n) xs) ≡ total f (take n xs) +ℤ f (get_or xs n d) = ap (λ k. total f (take k xs)) e ∙ total_more f xs n d (omega arith) in
    omega (arith, ints, one_more, total_by_number f xs d n (omega arith), total-append (λ i. f (get_or xs i d)) (numbers_below n) (n ∷ []))

pub total_numbered : {X : Type 0} (f : X → ℤ) (xs : List X) (d : X) → total (λ i. f (get_or xs i d)) (numbers_below (length xs)) ≡ total f xs
total_numbered f xs d = total_by_number f xs d (length xs) (omega arith) ∙ ap (total f) (take_all (length xs) xs (omega arith))

least_by_number : {X : Type 0} (f : X → ℕ) (xs : List X) (d : X) (n : ℕ) → n ≤ length xs → least (λ i. f (get_or xs i d)) (numbers_below n) ≡ least f (take n xs)
least_by_number f xs d zero le = refl
least_by_number f xs d (suc n) le =
    let e : suc n ≡ n + 1 = omega arith in
    let one_more : least f (take (suc n) xs) ≡ least f (take n xs ++ get_or xs n d ∷ []) = ap (λ k. least f (take k xs)) e ∙ ap (least f) (take_more xs n d (omega arith)) in
    omega (arith, one_more, least_by_number f xs d n (omega arith), least-append (λ i. f (get_or xs i d)) (numbers_below n) (n ∷ []), least-append f (take n xs) (get_or xs n d ∷ []))

pub least_numbered : {X : Type 0} (f : X → ℕ) (xs : List X) (d : X) → least (λ i. f (get_or xs i d)) (numbers_below (length xs)) ≡ least f xs
least_numbered f xs d = least_by_number f xs d (length xs) (omega arith) ∙ ap (least f) (take_all (length xs) xs (omega arith))
