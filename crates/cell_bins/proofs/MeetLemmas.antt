-- What it is that every near site is met: its place is among those met, and no place comes twice.
use Rattle.std.proofs.Common.{◌≡◌, ◌<◌, ◌==◌, Bool, true, false, cond, ℕ, zero, suc, ℤ, List, [], ◌∷◌, length, get_or, map, filter, Contains, ap, ◌∙◌, arith}
use Rattle.std.specs.List.{AllByRecursion, IsDistinct}
use Rattle.std.proofs.lemmas.Bool.Decides.{nat_tests}
use Rattle.std.proofs.lemmas.List.Sorted.{Contains-permutation, IsPermutation-map}
use Rattle.std.proofs.lemmas.Map.Keys.{IsDistinct-cons, IsDistinct-head, IsDistinct-tail, IsDistinct-IsPermutation}
use Rattle.box_geo.specs.declared.atoms.Site.{Site}
use Rattle.cell_bins.specs.Near.{HaveOwnPlaces, IsNear, Meets}

-- members of a map and of what a filter keeps
member_mapped : {X Y : Type 0} (f : X → Y) (xs : List X) (k : ℕ) (x : X) → k < length xs → get_or xs k x ≡ x → Contains (map f xs) (f x)
member_mapped f [] k x lt is = absurd (omega arith)
member_mapped f (y ∷ ys) zero x lt is = (0, omega arith, ap f is)
member_mapped f (y ∷ ys) (suc k) x lt is = let c = member_mapped f ys k x (omega arith) is in (suc c.0, omega (arith, c.1), c.2)

kept_here : {X : Type 0} (b : Bool) (y : X) (rest : List X) (x : X) → b ≡ true → y ≡ x → Contains (cond b (y ∷ rest) rest) x
kept_here true y rest x passes is = (0, omega arith, is)
kept_here false y rest x passes is = cc

kept_later : {X : Type 0} (b : Bool) (y : X) (rest : List X) (x : X) → Contains rest x → Contains (cond b (y ∷ rest) rest) x
kept_later true y rest x c = (suc c.0, omega (arith, c.1), c.2)
kept_later false y rest x c = c

member_kept : {X : Type 0} (p : X → Bool) (xs : List X) (k : ℕ) (x : X) → k < length xs → get_or xs k x ≡ x → p x ≡ true → Contains (filter p xs) x
member_kept p [] k x lt is passes = absurd (omega arith)
member_kept p (y ∷ ys) zero x lt is passes = kept_here (p y) y (filter p ys) x (ap p is ∙ passes) is
member_kept p (y ∷ ys) (suc k) x lt is passes = kept_later (p y) y (filter p ys) x (member_kept p ys k x (omega arith) is passes)

pub met_each : (reach : ℕ) (x : List ℤ) (sites met : List Site) → Meets reach x sites met → (s : Site) → Contains sites s → IsNear reach x s.x → Contains (map (λ (t : Site). t.place) met) s.place
met_each reach x sites met h s has near =
    let kept = Contains-permutation (filter h.test sites) met s h.once (member_kept h.test sites has.0 s has.1 has.2 (h.near s near)) in
    member_mapped (λ (t : Site). t.place) met kept.0 s kept.1 kept.2

-- distinct values stay distinct in what a filter keeps
module _ {X : Type 0} (f : X → ℕ) (p : X → Bool) where
  one_apart : (P : ℕ → Type 0) (b : Bool) (x : X) (rest : List X) → P (f x) → AllByRecursion P (map f rest) → AllByRecursion P (map f (cond b (x ∷ rest) rest))
  one_apart P true x rest here all = (here, all)
  one_apart P false x rest here all = all

  all_apart : (P : ℕ → Type 0) (xs : List X) → AllByRecursion P (map f xs) → AllByRecursion P (map f (filter p xs))
  all_apart P [] all = all
  all_apart P (x ∷ xs) all = one_apart P (p x) x (filter p xs) all.0 (all_apart P xs all.1)

  one_distinct : (b : Bool) (x : X) (rest : List X) → AllByRecursion (λ y. (f x == y) ≡ false) (map f rest) → IsDistinct (λ m n. m == n) (map f rest) → IsDistinct (λ m n. m == n) (map f (cond b (x ∷ rest) rest))
  one_distinct true x rest apart h = IsDistinct-cons (λ m n. m == n) (f x) (map f rest) apart h
  one_distinct false x rest apart h = h

  distinct_kept : (xs : List X) → IsDistinct (λ m n. m == n) (map f xs) → IsDistinct (λ m n. m == n) (map f (filter p xs))
  distinct_kept [] h = h
  distinct_kept (x ∷ xs) h =
      one_distinct (p x) x (filter p xs)
      (all_apart (λ y. (f x == y) ≡ false) xs (IsDistinct-head (λ m n. m == n) (f x) (map f xs) h))
      (distinct_kept xs (IsDistinct-tail (λ m n. m == n) (f x) (map f xs) h))

equal-comm : (m n : ℕ) → (m == n) ≡ (n == m)
equal-comm m n = grind (arith, nat_tests)

pub met_once : (reach : ℕ) (x : List ℤ) (sites met : List Site) → Meets reach x sites met → HaveOwnPlaces sites → IsDistinct (λ m n. m == n) (map (λ (t : Site). t.place) met)
met_once reach x sites met h own =
    IsDistinct-IsPermutation (λ m n. m == n) equal-comm (map (λ (t : Site). t.place) (filter h.test sites)) (map (λ (t : Site). t.place) met)
    (IsPermutation-map (λ (t : Site). t.place) (filter h.test sites) met h.once)
    (distinct_kept (λ (t : Site). t.place) h.test sites own)
