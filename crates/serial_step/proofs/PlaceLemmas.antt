-- From places to pairs: a list that has each pair of places whose atoms are near once gives the near pairs of the atoms.
use Rattle.std.proofs.Common.{◌≡◌, ◌<◌, ◌==◌, ◌&&◌, Bool, true, false, cond, ℕ, zero, suc, List, [], ◌∷◌, ◌++◌, length, get_or, map, filter, Contains, Decides, IsPermutation, refl, sym, ap, subst, ◌∙◌, arith}
use Rattle.std.specs.List.{All, IsDistinct}
use Rattle.std.proofs.Math.Dec.{eqb-zero-suc, eqb-suc-suc}
use Rattle.std.proofs.lemmas.Bool.Decides.{nat_tests, Decides-and, Decides-eqb}
use Rattle.std.proofs.lemmas.List.{map-append}
use Rattle.std.proofs.lemmas.List.Elements.{All-from_recursion, recursion_from_All, All-nil, All-cons, All-head, All-tail, All-same, All-append, All-weaker, All-map, All-contains, All-filter, filter_passes, Contains-append_left, Contains-append_right}
use Rattle.std.proofs.lemmas.List.Sorted.{IsPermutation-map}
use Rattle.std.proofs.lemmas.Map.Keys.{IsDistinct-head, IsDistinct-tail, IsDistinct-cons, IsDistinct-from_apart}
use Rattle.box_geo.specs.declared.atoms.Atom.{Atom}
use Rattle.sums.specs.Totals.{half}
use Rattle.sums.proofs.Members.{IsPermutation-from_members}
use Rattle.serial_step.specs.Pairs.{AreNearPairs, HasEachNearPairOnce, are_same_places, pair_at}

-- maps of lists, of their pairs and of what a filter keeps
map_twice : {X Y Z : Type 0} (f : Y → Z) (g : X → Y) (xs : List X) → map f (map g xs) ≡ map (λ x. f (g x)) xs
map_twice f g [] = refl
map_twice f g (x ∷ xs) = ap (λ rest. f (g x) ∷ rest) (map_twice f g xs)

abbrev both : {X Y : Type 0} → (X → Y) → X × X → Y × Y
both f p = (f p.0, f p.1)

pub half-map : {X Y : Type 0} (f : X → Y) (xs : List X) → half (map f xs) ≡ map (both f) (half xs)
half-map f [] = refl
half-map f (x ∷ xs) =
    ap (λ front. front ++ half (map f xs)) (map_twice (λ y. (f x, y)) f xs ∙ sym (map_twice (both f) (λ y. (x, y)) xs))
    ∙ ap (λ back. map (both f) (map (λ y. (x, y)) xs) ++ back) (half-map f xs)
    ∙ sym (map-append (both f) (map (λ y. (x, y)) xs) (half xs))

map_kept : {X Y : Type 0} (f : X → Y) (b : Bool) (x : X) (xs : List X) (ys : List Y) → ys ≡ map f xs → cond b (f x ∷ ys) ys ≡ map f (cond b (x ∷ xs) xs)
map_kept f true x xs ys e = ap (λ rest. f x ∷ rest) e
map_kept f false x xs ys e = e

filter-map : {X Y : Type 0} (near : Y → Bool) (f : X → Y) (xs : List X) → filter near (map f xs) ≡ map f (filter (λ x. near (f x)) xs)
filter-map near f [] = refl
filter-map near f (x ∷ xs) = map_kept f (near (f x)) x (filter (λ y. near (f y)) xs) (filter near (map f xs)) (filter-map near f xs)

-- members of a map and of what a filter keeps
member_mapped : {X Y : Type 0} (f : X → Y) (xs : List X) (k : ℕ) (x : X) → k < length xs → get_or xs k x ≡ x → Contains (map f xs) (f x)
member_mapped f [] k x lt is = absurd (omega arith)
member_mapped f (y ∷ ys) zero x lt is = (0, omega arith, ap f is)
member_mapped f (y ∷ ys) (suc k) x lt is = let c = member_mapped f ys k x (omega arith) is in (suc c.0, omega (arith, c.1), c.2)

Contains-map : {X Y : Type 0} (f : X → Y) (xs : List X) (x : X) → Contains xs x → Contains (map f xs) (f x)
Contains-map f xs x c = member_mapped f xs c.0 x c.1 c.2

kept_here : {X : Type 0} (b : Bool) (y : X) (rest : List X) (x : X) → b ≡ true → y ≡ x → Contains (cond b (y ∷ rest) rest) x
kept_here true y rest x passes is = (0, omega arith, is)
kept_here false y rest x passes is = cc

kept_later : {X : Type 0} (b : Bool) (y : X) (rest : List X) (x : X) → Contains rest x → Contains (cond b (y ∷ rest) rest) x
kept_later true y rest x c = (suc c.0, omega (arith, c.1), c.2)
kept_later false y rest x c = c

member_kept : {X : Type 0} (p : X → Bool) (xs : List X) (k : ℕ) (x : X) → k < length xs → get_or xs k x ≡ x → p x ≡ true → Contains (filter p xs) x
member_kept p [] k x lt is passes = absurd (omega arith)
member_kept p (y ∷ ys) zero x lt is passes = kept_here (p y) y (filter p ys) x (ap p is ∙ passes) is
member_kept p (y ∷ ys) (suc k) x lt is passes = kept_later (p y) y (filter p ys) x (member_kept p ys k x (omega arith) is passes)

-- lists without repeats
none_twice : {X : Type 0} (e : X → X → Bool) → IsDistinct e []
none_twice e = IsDistinct-from_apart e [] (λ i j d lt hi. absurd (omega arith))

distinct_append : {X : Type 0} (e : X → X → Bool) (xs ys : List X) → IsDistinct e xs → IsDistinct e ys → All (λ x. All (λ y. e x y ≡ false) ys) xs → IsDistinct e (xs ++ ys)
distinct_append e [] ys first second apart = second
distinct_append e (x ∷ xs) ys first second apart =
    IsDistinct-cons e x (xs ++ ys)
    (recursion_from_All (λ y. e x y ≡ false) (xs ++ ys)
    (All-append (λ y. e x y ≡ false) xs ys (All-from_recursion (λ y. e x y ≡ false) xs (IsDistinct-head e x xs first)) (All-head (λ z. All (λ y. e z y ≡ false) ys) x xs apart)))
    (distinct_append e xs ys (IsDistinct-tail e x xs first) second (All-tail (λ z. All (λ y. e z y ≡ false) ys) x xs apart))

kept_apart : {X : Type 0} (e : X → X → Bool) (b : Bool) (x : X) (xs : List X) → All (λ y. e x y ≡ false) xs → IsDistinct e xs → IsDistinct e (cond b (x ∷ xs) xs)
kept_apart e true x xs apart h = IsDistinct-cons e x xs (recursion_from_All (λ y. e x y ≡ false) xs apart) h
kept_apart e false x xs apart h = h

distinct_filter : {X : Type 0} (e : X → X → Bool) (p : X → Bool) (xs : List X) → IsDistinct e xs → IsDistinct e (filter p xs)
distinct_filter e p [] h = h
distinct_filter e p (x ∷ xs) h =
    kept_apart e (p x) x (filter p xs)
    (All-filter p (λ y. e x y ≡ false) xs (All-from_recursion (λ y. e x y ≡ false) xs (IsDistinct-head e x xs h)))
    (distinct_filter e p xs (IsDistinct-tail e x xs h))

-- the pairs of a list without repeats are without repeats
firsts : {X : Type 0} (P : X → Type 0) (xs : List X) → All P xs → All (λ q. P q.0) (half xs)
firsts P [] all = All-nil (λ q. P q.0)
firsts P (x ∷ xs) all =
    All-append (λ q. P q.0) (map (λ y. (x, y)) xs) (half xs)
    (All-map (λ q. P q.0) (λ y. (x, y)) xs (λ k d lt. All-head P x xs all))
    (firsts P xs (All-tail P x xs all))

second_differs : (b c : Bool) → c ≡ false → (b && c) ≡ false
second_differs true c h = h
second_differs false c h = refl

first_differs : (b c : Bool) → b ≡ false → (b && c) ≡ false
first_differs true c h = cc
first_differs false c h = refl

module _ {X : Type 0} (e : X → X → Bool) where
  abbrev pairwise : X × X → X × X → Bool
  pairwise p q = e p.0 q.0 && e p.1 q.1

  pairs_of_one : (x : X) (xs : List X) → IsDistinct e xs → IsDistinct pairwise (map (λ y. (x, y)) xs)
  pairs_of_one x [] h = none_twice pairwise
  pairs_of_one x (y ∷ ys) h =
      IsDistinct-cons pairwise (x, y) (map (λ z. (x, z)) ys)
      (recursion_from_All (λ q. pairwise (x, y) q ≡ false) (map (λ z. (x, z)) ys)
      (All-map (λ q. pairwise (x, y) q ≡ false) (λ z. (x, z)) ys
      (All-weaker (λ z. e y z ≡ false) (λ z. pairwise (x, y) (x, z) ≡ false) (λ z differs. second_differs (e x x) (e y z) differs) ys
      (All-from_recursion (λ z. e y z ≡ false) ys (IsDistinct-head e y ys h)))))
      (pairs_of_one x ys (IsDistinct-tail e y ys h))

  half-distinct : (xs : List X) → IsDistinct e xs → IsDistinct pairwise (half xs)
  half-distinct [] h = none_twice pairwise
  half-distinct (x ∷ xs) h =
      let others : All (λ q. e x q.0 ≡ false) (half xs) = firsts (λ y. e x y ≡ false) xs (All-from_recursion (λ y. e x y ≡ false) xs (IsDistinct-head e x xs h)) in
      let apart : (y : X) → All (λ q. pairwise (x, y) q ≡ false) (half xs) = λ y. All-weaker (λ q. e x q.0 ≡ false) (λ q. pairwise (x, y) q ≡ false) (λ q differs. first_differs (e x q.0) (e y q.1) differs) (half xs) others in
      distinct_append pairwise (map (λ y. (x, y)) xs) (half xs)
      (pairs_of_one x xs (IsDistinct-tail e x xs h))
      (half-distinct xs (IsDistinct-tail e x xs h))
      (All-map (λ p. All (λ q. pairwise p q ≡ false) (half xs)) (λ y. (x, y)) xs (λ k d lt. apart (get_or xs k d)))

-- the places of a list
abbrev upto : ℕ → List ℕ
upto zero = []
upto (suc n) = zero ∷ map suc (upto n)

elements_at : {X : Type 0} (xs : List X) (d : X) → map (λ i. get_or xs i d) (upto (length xs)) ≡ xs
elements_at [] d = refl
elements_at (x ∷ xs) d = ap (λ rest. x ∷ rest) (map_twice (λ i. get_or (x ∷ xs) i d) suc (upto (length xs)) ∙ elements_at xs d)

upto_has : (n j : ℕ) → j < n → Contains (upto n) j
upto_has zero j lt = absurd (omega arith)
upto_has (suc n) zero lt = (0, omega arith, refl)
upto_has (suc n) (suc j) lt = let c = Contains-map suc (upto n) j (upto_has n j (omega arith)) in (suc c.0, omega (arith, c.1), c.2)

upto_below : (n : ℕ) → All (λ y. y < n) (upto n)
upto_below zero = All-nil (λ y. y < zero)
upto_below (suc n) =
    All-cons (λ y. y < suc n) zero (map suc (upto n)) (omega arith)
    (All-map (λ y. y < suc n) suc (upto n) (All-weaker (λ y. y < n) (λ y. suc y < suc n) (λ y lt. omega arith) (upto n) (upto_below n)))

distinct_suc : (xs : List ℕ) → IsDistinct (λ m n. m == n) xs → IsDistinct (λ m n. m == n) (map suc xs)
distinct_suc [] h = h
distinct_suc (x ∷ xs) h =
    IsDistinct-cons (λ m n. m == n) (suc x) (map suc xs)
    (recursion_from_All (λ y. (suc x == y) ≡ false) (map suc xs)
    (All-map (λ y. (suc x == y) ≡ false) suc xs
    (All-weaker (λ y. (x == y) ≡ false) (λ y. (suc x == suc y) ≡ false) (λ y differs. eqb-suc-suc x y ∙ differs) xs
    (All-from_recursion (λ y. (x == y) ≡ false) xs (IsDistinct-head (λ m n. m == n) x xs h)))))
    (distinct_suc xs (IsDistinct-tail (λ m n. m == n) x xs h))

upto_distinct : (n : ℕ) → IsDistinct (λ m n. m == n) (upto n)
upto_distinct zero = none_twice (λ m n. m == n)
upto_distinct (suc n) =
    IsDistinct-cons (λ m n. m == n) zero (map suc (upto n))
    (recursion_from_All (λ y. (zero == y) ≡ false) (map suc (upto n)) (All-map (λ y. (zero == y) ≡ false) suc (upto n) (λ k d lt. eqb-zero-suc (get_or (upto n) k d))))
    (distinct_suc (upto n) (upto_distinct n))

-- the pairs of places are those with the lesser first
abbrev Rises : ℕ → ℕ × ℕ → Type 0
Rises n p = (p.0 < p.1) × (p.1 < n)

half_rises : (n : ℕ) → All (Rises n) (half (upto n))
half_rises zero = All-nil (Rises zero)
half_rises (suc n) =
    All-append (Rises (suc n)) (map (λ y. (zero, y)) (map suc (upto n))) (half (map suc (upto n)))
    (All-map (Rises (suc n)) (λ y. (zero, y)) (map suc (upto n))
    (All-map (λ y. Rises (suc n) (zero, y)) suc (upto n)
    (All-weaker (λ y. y < n) (λ y. Rises (suc n) (zero, suc y)) (λ y lt. (omega arith, omega arith)) (upto n) (upto_below n))))
    (All-same (Rises (suc n)) (half (map suc (upto n))) (map (both suc) (half (upto n))) (half-map suc (upto n))
    (All-map (Rises (suc n)) (both suc) (half (upto n))
    (All-weaker (Rises n) (λ p. Rises (suc n) (both suc p)) (λ p h. (omega (arith, h.0), omega (arith, h.1))) (half (upto n)) (half_rises n))))

half_has : (n i j : ℕ) → i < j → j < n → Contains (half (upto n)) (i, j)
half_has zero i j lt hi = absurd (omega arith)
half_has (suc n) i zero lt hi = absurd (omega arith)
half_has (suc n) zero (suc j) lt hi =
    Contains-append_left (map (λ y. (zero, y)) (map suc (upto n))) (half (map suc (upto n))) (zero, suc j)
    (Contains-map (λ y. (zero, y)) (map suc (upto n)) (suc j) (Contains-map suc (upto n) j (upto_has n j (omega arith))))
half_has (suc n) (suc i) (suc j) lt hi =
    let has : List (ℕ × ℕ) → Type 0 = λ list. Contains list (suc i, suc j) in
    Contains-append_right (map (λ y. (zero, y)) (map suc (upto n))) (half (map suc (upto n))) (suc i, suc j)
    (subst has (sym (half-map suc (upto n))) (Contains-map (both suc) (half (upto n)) (i, j) (half_has n i j (omega arith) (omega arith))))

-- the test of places
same_decides : (p q : ℕ × ℕ) → Decides (are_same_places p q) (p ≡ q)
same_decides p q =
    let d = Decides-and (p.0 == q.0) (p.1 == q.1) (Decides-eqb p.0 q.0) (Decides-eqb p.1 q.1) in
    (λ t. let h = d.0 t in ap (λ a. (a, p.1)) h.0 ∙ ap (λ b. (q.0, b)) h.1, λ is. d.1 (ap (λ r. r.0) is, ap (λ r. r.1) is))

equal-comm : (m n : ℕ) → (m == n) ≡ (n == m)
equal-comm m n = grind (arith, nat_tests)

same_flips : (p q : ℕ × ℕ) → are_same_places p q ≡ are_same_places q p
same_flips p q = let h = equal-comm p.0 q.0 in let g = equal-comm p.1 q.1 in cc

near_places : (near : Atom × Atom → Bool) (atoms : List Atom) (d : Atom) (places : List (ℕ × ℕ)) → HasEachNearPairOnce near atoms d places
    → IsPermutation (filter (λ p. near (pair_at atoms d p)) (half (upto (length atoms)))) places
near_places near atoms d places h =
    let n : ℕ = length atoms in
    let chosen : ℕ × ℕ → Bool = λ p. near (pair_at atoms d p) in
    IsPermutation-from_members are_same_places same_decides same_flips (filter chosen (half (upto n))) places
    (distinct_filter are_same_places chosen (half (upto n)) (half-distinct (λ m n. m == n) (upto n) (upto_distinct n)))
    h.once
    (λ p c. let up : Rises n p = All-contains (Rises n) (filter chosen (half (upto n))) p (All-filter chosen (Rises n) (half (upto n)) (half_rises n)) c in
    h.each p up.0 up.1 (All-contains (λ q. chosen q ≡ true) (filter chosen (half (upto n))) p (filter_passes chosen (half (upto n))) c))
    (λ p c. let up = h.only p c in let place = half_has n p.0 p.1 up.0 up.1 in member_kept chosen (half (upto n)) place.0 p place.1 place.2 up.2)

pub near_pairs_from_places : (near : Atom × Atom → Bool) (atoms : List Atom) (d : Atom) (places : List (ℕ × ℕ)) → HasEachNearPairOnce near atoms d places → AreNearPairs near atoms (map (pair_at atoms d) places)
near_pairs_from_places near atoms d places h =
    let at : ℕ → Atom = λ i. get_or atoms i d in
    let n : ℕ = length atoms in
    let is : map (pair_at atoms d) (filter (λ p. near (pair_at atoms d p)) (half (upto n))) ≡ filter near (half atoms) =
    sym (filter-map near (pair_at atoms d) (half (upto n))) ∙ ap (filter near) (sym (half-map at (upto n)) ∙ ap half (elements_at atoms d)) in
    let P : List (Atom × Atom) → Type 0 = λ list. IsPermutation list (map (pair_at atoms d) places) in
    subst P is (IsPermutation-map (pair_at atoms d) (filter (λ p. near (pair_at atoms d p)) (half (upto n))) places (near_places near atoms d places h))
