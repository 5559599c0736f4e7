-- Tables with one entry more.
use Rattle.std.proofs.Common.{◌≡◌, ◌+◌, ◌≤◌, ◌||◌, ℕ, ℤ, pos, zero, suc, Bool, true, false, Option, Some, None, List, [], ◌∷◌, Ordering, length, map, unwrap_or, refl, sym, ap, inl, arith, length-append}
use Rattle.std.proofs.lemmas.Bool.Decides.{nat_tests}
use Rattle.std.proofs.lemmas.List.Elements.{All-append, All-cons, All-from_recursion, All-head, All-nil, All-tail, recursion_from_All}
use Rattle.std.proofs.lemmas.Map.Entries.{All-lookup}
use Rattle.std.proofs.lemmas.Map.Keys.{below_from_sorted}
use Rattle.std.proofs.lemmas.Map.Views.{All-insert_key}
use Rattle.std.specs.BTreeMap.{is_at}
use Rattle.std.specs.List.{All, AllByRecursion, Contains}
use Rattle.std.specs.List.Sorted.{IsStrictlySortedBy}
use Rattle.std.specs.Map.{keys_of}
use Rattle.std.specs.Option.{IfSome}
use Rattle.std.specs.Ordering.{is_eq, match_ordering, nat_cmp}
use Rattle.std.specs.declared.cmp.Ordering.TheVariants.{Less, Equal, Greater}
use Rattle.box_geo.specs.Ids.{Rises}
use Rattle.data_file.specs.Sound.{IsMass}
use Rattle.data_file.specs.Tables.{add, is_met, masses_of, put, under}

same_key : (k e : ℕ) → nat_cmp k e ≡ Equal → k ≡ e
same_key k e h = grind (arith, nat_tests)

-- keys with one more
length_by : (x : ℕ) (xs : List ℕ) (k : ℕ) (o : Ordering) → (is_eq o || is_met k xs) ≡ false → (is_met k xs ≡ false → length (add xs k) ≡ length xs + 1)
    → length (match_ordering o (k ∷ x ∷ xs) (x ∷ xs) (x ∷ add xs k)) ≡ length (x ∷ xs) + 1
length_by x xs k Less e rest = omega arith
length_by x xs k Equal e rest = absurd cc
length_by x xs k Greater e rest = omega (arith, rest e)

pub length_add : (ks : List ℕ) (k : ℕ) → is_met k ks ≡ false → length (add ks k) ≡ length ks + 1
length_add [] k e = refl
length_add (x ∷ ks) k e = length_by x ks k (nat_cmp k x) e (length_add ks k)

or_more : (a b : Bool) → b ≡ true → (a || b) ≡ true
or_more true b e = refl
or_more false b e = e

met_later : (a b c : Bool) → (a || b) ≡ true → (b ≡ true → c ≡ true) → (a || c) ≡ true
met_later true b c e f = refl
met_later false b c e f = f e

met_by : (id x : ℕ) (xs : List ℕ) (k : ℕ) (o : Ordering) → is_met id (x ∷ xs) ≡ true → (is_met id xs ≡ true → is_met id (add xs k) ≡ true)
    → is_met id (match_ordering o (k ∷ x ∷ xs) (x ∷ xs) (x ∷ add xs k)) ≡ true
met_by id x xs k Less e rest = or_more (is_at (nat_cmp id) k) (is_met id (x ∷ xs)) e
met_by id x xs k Equal e rest = e
met_by id x xs k Greater e rest = met_later (is_at (nat_cmp id) x) (is_met id xs) (is_met id (add xs k)) e rest

pub met_add : (id : ℕ) (ks : List ℕ) (k : ℕ) → is_met id ks ≡ true → is_met id (add ks k) ≡ true
met_add id [] k e = absurd cc
met_add id (x ∷ ks) k e = met_by id x ks k (nat_cmp k x) e (met_add id ks k)

-- an id that was met is in the list
contains_by : (id x : ℕ) (xs : List ℕ) (o : Ordering) → nat_cmp id x ≡ o → (is_eq o || is_met id xs) ≡ true → (is_met id xs ≡ true → Contains xs id) → Contains (x ∷ xs) id
contains_by id x xs Equal h e rest = (0, omega arith, sym (same_key id x h))
contains_by id x xs Less h e rest = let c = rest e in (suc c.0, omega (arith, c.1), c.2)
contains_by id x xs Greater h e rest = let c = rest e in (suc c.0, omega (arith, c.1), c.2)

pub contains_met : (id : ℕ) (ks : List ℕ) → is_met id ks ≡ true → Contains ks id
contains_met id [] e = absurd cc
contains_met id (x ∷ ks) e = contains_by id x ks (nat_cmp id x) refl e (contains_met id ks)

first_of : (x y : ℕ) (xs ys : List ℕ) → x ∷ xs ≡ y ∷ ys → x ≡ y
first_of x y xs ys e = cc

rest_of : (x y : ℕ) (xs ys : List ℕ) → x ∷ xs ≡ y ∷ ys → xs ≡ ys
rest_of x y xs ys e = cc

-- entries with one more
module _ {A : Type 0} where
  keys_by : (e : ℕ × A) (es : List (ℕ × A)) (k : ℕ) (v : A) (o : Ordering) → keys_of (put es k v) ≡ add (keys_of es) k
      → keys_of (match_ordering o ((k, v) ∷ e ∷ es) ((e.0, v) ∷ es) (e ∷ put es k v)) ≡ match_ordering o (k ∷ e.0 ∷ keys_of es) (e.0 ∷ keys_of es) (e.0 ∷ add (keys_of es) k)
  keys_by e es k v Less rest = refl
  keys_by e es k v Equal rest = refl
  keys_by e es k v Greater rest = ap (λ (ks : List ℕ). e.0 ∷ ks) rest

  pub keys_put : (es : List (ℕ × A)) (k : ℕ) (v : A) → keys_of (put es k v) ≡ add (keys_of es) k
  keys_put [] k v = refl
  keys_put (e ∷ es) k v = keys_by e es k v (nat_cmp k e.0) (keys_put es k v)

  put_by : (e : ℕ × A) (es : List (ℕ × A)) (k : ℕ) (v : A) (o : Ordering) → length (put es k v) ≤ length es + 1
      → length (match_ordering o ((k, v) ∷ e ∷ es) ((e.0, v) ∷ es) (e ∷ put es k v)) ≤ length (e ∷ es) + 1
  put_by e es k v Less rest = omega arith
  put_by e es k v Equal rest = omega arith
  put_by e es k v Greater rest = omega arith

  pub length_put : (es : List (ℕ × A)) (k : ℕ) (v : A) → length (put es k v) ≤ length es + 1
  length_put [] k v = omega arith
  length_put (e ∷ es) k v = put_by e es k v (nat_cmp k e.0) (length_put es k v)

  All_by : (P : A → Type 0) (e : ℕ × A) (es : List (ℕ × A)) (k : ℕ) (v : A) (o : Ordering) → P v → All (λ (q : ℕ × A). P q.1) (e ∷ es) → All (λ (q : ℕ × A). P q.1) (put es k v)
      → All (λ (q : ℕ × A). P q.1) (match_ordering o ((k, v) ∷ e ∷ es) ((e.0, v) ∷ es) (e ∷ put es k v))
  All_by P e es k v Less here all rest = All-cons (λ (q : ℕ × A). P q.1) (k, v) (e ∷ es) here all
  All_by P e es k v Equal here all rest = All-cons (λ (q : ℕ × A). P q.1) (e.0, v) es here (All-tail (λ (q : ℕ × A). P q.1) e es all)
  All_by P e es k v Greater here all rest = All-cons (λ (q : ℕ × A). P q.1) e (put es k v) (All-head (λ (q : ℕ × A). P q.1) e es all) rest

  pub All_put : (P : A → Type 0) (es : List (ℕ × A)) (k : ℕ) (v : A) → P v → All (λ (q : ℕ × A). P q.1) es → All (λ (q : ℕ × A). P q.1) (put es k v)
  All_put P [] k v here all = All-cons (λ (q : ℕ × A). P q.1) (k, v) [] here all
  All_put P (e ∷ es) k v here all = All_by P e es k v (nat_cmp k e.0) here all (All_put P es k v here (All-tail (λ (q : ℕ × A). P q.1) e es all))

  -- the keys are the values of a function
  named_by : (f : A → ℕ) (e : ℕ × A) (es : List (ℕ × A)) (k : ℕ) (v : A) (o : Ordering) → nat_cmp k e.0 ≡ o → f v ≡ k → f e.1 ≡ e.0 → map (λ (q : ℕ × A). f q.1) es ≡ keys_of es
      → map (λ (q : ℕ × A). f q.1) (put es k v) ≡ keys_of (put es k v)
      → map (λ (q : ℕ × A). f q.1) (match_ordering o ((k, v) ∷ e ∷ es) ((e.0, v) ∷ es) (e ∷ put es k v)) ≡ keys_of (match_ordering o ((k, v) ∷ e ∷ es) ((e.0, v) ∷ es) (e ∷ put es k v))
  named_by f e es k v Less h new first all rest = cc
  named_by f e es k v Equal h new first all rest = let same : k ≡ e.0 = same_key k e.0 h in cc
  named_by f e es k v Greater h new first all rest = cc

  pub named_put : (f : A → ℕ) (es : List (ℕ × A)) (k : ℕ) (v : A) → f v ≡ k → map (λ (q : ℕ × A). f q.1) es ≡ keys_of es → map (λ (q : ℕ × A). f q.1) (put es k v) ≡ keys_of (put es k v)
  named_put f [] k v new all = ap (λ (n : ℕ). n ∷ []) new
  named_put f (e ∷ es) k v new all =
      let first : f e.1 ≡ e.0 = first_of (f e.1) e.0 (map (λ (q : ℕ × A). f q.1) es) (keys_of es) all in
      let rest : map (λ (q : ℕ × A). f q.1) es ≡ keys_of es = rest_of (f e.1) e.0 (map (λ (q : ℕ × A). f q.1) es) (keys_of es) all in
      named_by f e es k v (nat_cmp k e.0) refl new first rest (named_put f es k v new rest)

-- keys in rising order
below_others : (k a : ℕ) (ks : List ℕ) → nat_cmp k a ≡ Less → AllByRecursion (λ y. nat_cmp a y ≡ Less) ks → AllByRecursion (λ y. nat_cmp k y ≡ Less) ks
below_others k a [] h all = tt
below_others k a (b ∷ ks) h all = (grind (arith, nat_tests, all.0), below_others k a ks h all.1)

above_first : (k a : ℕ) → nat_cmp k a ≡ Greater → nat_cmp a k ≡ Less
above_first k a h = grind (arith, nat_tests)

sorted_by : (x : ℕ) (xs : List ℕ) (k : ℕ) (o : Ordering) → nat_cmp k x ≡ o → IsStrictlySortedBy nat_cmp (x ∷ xs) → IsStrictlySortedBy nat_cmp (add xs k)
    → IsStrictlySortedBy nat_cmp (match_ordering o (k ∷ x ∷ xs) (x ∷ xs) (x ∷ add xs k))
unfolding IsStrictlySortedBy
sorted_by x xs k Less h s rest = ((h, below_others k x xs h s.0), s)
sorted_by x xs k Equal h s rest = s
sorted_by x xs k Greater h s rest = (
  recursion_from_All (λ y. nat_cmp x y ≡ Less) _ (All-insert_key nat_cmp k (λ y. nat_cmp x y ≡ Less) xs (All-from_recursion (λ y. nat_cmp x y ≡ Less) xs s.0) (above_first k x h)),
  rest,
)

pub sorted_add : (ks : List ℕ) (k : ℕ) → IsStrictlySortedBy nat_cmp ks → IsStrictlySortedBy nat_cmp (add ks k)
unfolding IsStrictlySortedBy
sorted_add [] k s = (tt, tt)
sorted_add (x ∷ ks) k s = sorted_by x ks k (nat_cmp k x) refl s (sorted_add ks k s.1)

pub sorted_none : IsStrictlySortedBy nat_cmp []
unfolding IsStrictlySortedBy
sorted_none = tt

pub rises_sorted : (ks : List ℕ) → IsStrictlySortedBy nat_cmp ks → Rises ks
rises_sorted ks sorted i j below within = below_from_sorted ks i j 0 sorted below within

-- masses
mass_or : (m : Option ℤ) → IfSome m IsMass → IsMass (unwrap_or m (pos 0))
mass_or (Some m) h = h
mass_or None h = inl refl

pub length_masses : (n : ℕ) (ms : List (ℕ × ℤ)) → length (masses_of n ms) ≡ n
length_masses zero ms = refl
length_masses (suc n) ms = omega (arith, length-append (masses_of n ms) (unwrap_or (under (suc n) ms) (pos 0) ∷ []), length_masses n ms)

pub All_masses : (n : ℕ) (ms : List (ℕ × ℤ)) → All (λ (q : ℕ × ℤ). IsMass q.1) ms → All IsMass (masses_of n ms)
All_masses zero ms all = All-nil IsMass
All_masses (suc n) ms all =
    All-append IsMass (masses_of n ms) (unwrap_or (under (suc n) ms) (pos 0) ∷ []) (All_masses n ms all)
    (All-cons IsMass (unwrap_or (under (suc n) ms) (pos 0)) [] (mass_or (under (suc n) ms) (All-lookup IsMass (is_at (nat_cmp (suc n))) ms all)) (All-nil IsMass))
