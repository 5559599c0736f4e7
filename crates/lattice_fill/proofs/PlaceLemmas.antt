-- What lists hold: parts joined, parts left out, each element changed.
use Rattle.std.proofs.Common.{◌≡◌, ◌∙◌, ◌<◌, ◌⊎◌, inl, inr, Bool, true, false, cond, ℕ, zero, suc, List, [], ◌∷◌, ◌++◌, length, map, flat_map, filter, slice_index_or, Contains, arith, ap, sym, refl, subst, ⊎_elim}

-- an element of a list, from the first on
abbrev pub IsIn : {X : Type 0} → X → List X → Type 0
IsIn x [] = ⊥
IsIn x (y ∷ ys) = (y ≡ x) ⊎ IsIn x ys

is_in_at : {X : Type 0} (xs : List X) (x : X) (k : ℕ) → k < length xs → slice_index_or xs k x ≡ x → IsIn x xs
is_in_at [] x k below is = absurd (omega arith)
is_in_at (y ∷ ys) x zero below is = inl is
is_in_at (y ∷ ys) x (suc k) below is = inr (is_in_at ys x k (omega arith) is)

pub is_in_from : {X : Type 0} (xs : List X) (x : X) → Contains xs x → IsIn x xs
is_in_from xs x has = is_in_at xs x has.0 has.1 has.2

pub contains_from : {X : Type 0} (xs : List X) (x : X) → IsIn x xs → Contains xs x
contains_from [] x h = absurd h
contains_from (y ∷ ys) x (inl is) = (0, omega arith, is)
contains_from (y ∷ ys) x (inr rest) = let has = contains_from ys x rest in (suc has.0, omega (arith, has.1), has.2)

is_in_left : {X : Type 0} (xs ys : List X) (x : X) → IsIn x xs → IsIn x (xs ++ ys)
is_in_left [] ys x h = absurd h
is_in_left (z ∷ zs) ys x (inl is) = inl is
is_in_left (z ∷ zs) ys x (inr rest) = inr (is_in_left zs ys x rest)

is_in_right : {X : Type 0} (xs ys : List X) (x : X) → IsIn x ys → IsIn x (xs ++ ys)
is_in_right [] ys x h = h
is_in_right (z ∷ zs) ys x h = inr (is_in_right zs ys x h)

pub is_in_either : {X : Type 0} (xs ys : List X) (x : X) → IsIn x (xs ++ ys) → IsIn x xs ⊎ IsIn x ys
is_in_either [] ys x h = inr h
is_in_either (z ∷ zs) ys x (inl is) = inl (inl is)
is_in_either (z ∷ zs) ys x (inr rest) = ⊎_elim (λ l. inl (inr l)) (λ r. inr r) (is_in_either zs ys x rest)

-- parts joined
pub joined_has : {X Y : Type 0} (f : X → List Y) (xs : List X) (x : X) (y : Y) → IsIn x xs → IsIn y (f x) → IsIn y (flat_map f xs)
joined_has f [] x y h part = absurd h
joined_has f (z ∷ zs) x y (inl is) part = is_in_left (f z) (flat_map f zs) y (subst (λ w. IsIn y (f w)) (sym is) part)
joined_has f (z ∷ zs) x y (inr rest) part = is_in_right (f z) (flat_map f zs) y (joined_has f zs x y rest part)

pub joined_from : {X Y : Type 0} (f : X → List Y) (xs : List X) (y : Y) → IsIn y (flat_map f xs) → (x : X) × IsIn x xs × IsIn y (f x)
joined_from f [] y h = absurd h
joined_from f (z ∷ zs) y h =
    ⊎_elim (λ l. (z, inl refl, l)) (λ r. let found = joined_from f zs y r in (found.0, inr found.1, found.2)) (is_in_either (f z) (flat_map f zs) y h)

-- each element changed
pub changed_has : {X Y : Type 0} (f : X → Y) (xs : List X) (x : X) → IsIn x xs → IsIn (f x) (map f xs)
changed_has f [] x h = absurd h
changed_has f (z ∷ zs) x (inl is) = inl (ap f is)
changed_has f (z ∷ zs) x (inr rest) = inr (changed_has f zs x rest)

pub changed_from : {X Y : Type 0} (f : X → Y) (xs : List X) (y : Y) → IsIn y (map f xs) → (x : X) × IsIn x xs × (f x ≡ y)
changed_from f [] y h = absurd h
changed_from f (z ∷ zs) y (inl is) = (z, inl refl, is)
changed_from f (z ∷ zs) y (inr rest) = let found = changed_from f zs y rest in (found.0, inr found.1, found.2)

-- parts left out
kept_by : {X : Type 0} (test : X → Bool) (z : X) (zs : List X) (x : X) (b : Bool) → (b ≡ test z) → test x ≡ true → (z ≡ x) ⊎ IsIn x (filter test zs) → IsIn x (cond b (z ∷ filter test zs) (filter test zs))
kept_by test z zs x true e holds h = h
kept_by test z zs x false e holds (inl is) = let no : false ≡ true = e ∙ ap test is ∙ holds in cc
kept_by test z zs x false e holds (inr rest) = rest

pub kept_has : {X : Type 0} (test : X → Bool) (xs : List X) (x : X) → test x ≡ true → IsIn x xs → IsIn x (filter test xs)
kept_has test [] x holds h = absurd h
kept_has test (z ∷ zs) x holds (inl is) = kept_by test z zs x (test z) refl holds (inl is)
kept_has test (z ∷ zs) x holds (inr rest) = kept_by test z zs x (test z) refl holds (inr (kept_has test zs x holds rest))

kept_either : {X : Type 0} (test : X → Bool) (z : X) (zs : List X) (x : X) (b : Bool) → (b ≡ test z) → IsIn x (cond b (z ∷ filter test zs) (filter test zs)) → ((z ≡ x) × (test x ≡ true)) ⊎ IsIn x (filter test zs)
kept_either test z zs x true e (inl is) = inl (is, sym (e ∙ ap test is))
kept_either test z zs x true e (inr rest) = inr rest
kept_either test z zs x false e h = inr h

pub kept_from : {X : Type 0} (test : X → Bool) (xs : List X) (x : X) → IsIn x (filter test xs) → IsIn x xs × (test x ≡ true)
kept_from test [] x h = absurd h
kept_from test (z ∷ zs) x h =
    ⊎_elim (λ here. (inl here.0, here.1)) (λ r. let found = kept_from test zs x r in (inr found.0, found.1)) (kept_either test z zs x (test z) refl h)
