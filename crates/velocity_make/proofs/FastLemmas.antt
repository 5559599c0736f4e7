-- Whom a change makes too fast: the least id, and none where there is no such atom.
use Rattle.std.proofs.Common.{◌≡◌, ◌∙◌, ◌≤◌, ◌<◌, ◌&&◌, min, true, false, cond, Bool, ℕ, suc, ℤ, unsigned_abs, Option, Some, None, IfSome, List, [], ◌∷◌, ◌⊎◌, inl, inr, ⊎_elim, All, refl, sym, ap, subst, arith}
use Rattle.std.specs.Option.{unwrap_or}
use Rattle.std.proofs.lemmas.Bool.{cases_lt}
use Rattle.std.proofs.lemmas.List.Elements.{All-head, All-tail, All-cons, All-nil, All-contains}
use Rattle.box_geo.specs.declared.atoms.Atom.{Atom}
use Rattle.box_geo.specs.declared.limits.TheConstants.{MAX_SPEED}
use Rattle.box_geo.specs.Sides.{x_of, y_of, z_of}
use Rattle.computes.specs.Quantities.{IsSlow}
use Rattle.velocity_make.specs.declared.changes.Change.{Change}
use Rattle.velocity_make.specs.Change.{changed, changed_all, is_slow, is_within, least_fast, lesser_fast, velocity_after, with_velocity}
use Rattle.velocity_make.specs.Group.{is_member}
use Rattle.velocity_make.specs.Make.{HasFast, too_fast}

-- the tests of a speed
within_from : (v : ℤ) → is_within v ≡ true → unsigned_abs v ≤ unsigned_abs MAX_SPEED
within_from v e = grind arith

parts : (a b c : Bool) → (a && b && c) ≡ true → (a ≡ true) × (b ≡ true) × (c ≡ true)
parts true true true e = (refl, refl, refl)
parts true true false e = cc
parts true false true e = cc
parts true false false e = cc
parts false b c e = cc

pub slow_from : (a : Atom) → is_slow a ≡ true → IsSlow a
slow_from a e = let h = parts _ _ _ e in (within_from (x_of a.v) h.0, within_from (y_of a.v) h.1, within_from (z_of a.v) h.2)

-- the least so far stays one
picked : (t s : Bool) (m n : ℕ) → (k : ℕ) × (cond t (cond s (Some m) (Some n)) (Some m) ≡ Some k)
picked true true m n = (m, refl)
picked true false m n = (n, refl)
picked false s m n = (m, refl)

some_stays : (ids : List ℕ) (atoms : List Atom) (m : ℕ) → least_fast ids (Some m) atoms ≡ None → ⊥
some_stays ids [] m e = cc
some_stays ids (a ∷ atoms) m e =
    let p = picked (is_member ids a) (is_slow a) m (min (unwrap_or (Some m) a.id) a.id) in
    some_stays ids atoms p.0 (ap (λ o. least_fast ids o atoms) (sym p.1) ∙ e)

-- none is too fast
abbrev pub IsFine : List ℕ → Atom → Type 0
IsFine ids a = is_member ids a ≡ true → is_slow a ≡ true

first_fine : (ids : List ℕ) (atoms : List Atom) (t s : Bool) (n : ℕ) → least_fast ids (cond t (cond s None (Some n)) None) atoms ≡ None
    → (t ≡ true → s ≡ true) × (least_fast ids None atoms ≡ None)
first_fine ids atoms true true n e = (λ _. refl, e)
first_fine ids atoms true false n e = absurd (some_stays ids atoms n e)
first_fine ids atoms false s n e = (λ (f : false ≡ true). cc, e)

pub none_fast : (ids : List ℕ) (atoms : List Atom) → too_fast ids atoms ≡ None → All (IsFine ids) atoms
none_fast ids [] e = All-nil (IsFine ids)
none_fast ids (a ∷ atoms) e =
    let h = first_fine ids atoms (is_member ids a) (is_slow a) (min (unwrap_or None a.id) a.id) e in
    All-cons (IsFine ids) a atoms h.0 (none_fast ids atoms h.1)

one_slow : (ids : List ℕ) (a : Atom) (v : List ℤ) (t : Bool) → t ≡ is_member ids a → IsSlow a → IsFine ids (cond t (with_velocity a v) a) → IsSlow (cond t (with_velocity a v) a)
one_slow ids a v true e slow fine = slow_from (with_velocity a v) (fine (sym e))
one_slow ids a v false e slow fine = slow

all_slow : (ids : List ℕ) (change : Change) (atoms : List Atom) → All IsSlow atoms → All (IsFine ids) (changed_all ids change atoms) → All IsSlow (changed_all ids change atoms)
all_slow ids change [] slow fine = All-nil IsSlow
all_slow ids change (a ∷ atoms) slow fine =
    All-cons IsSlow (changed ids change a) (changed_all ids change atoms)
    (one_slow ids a (velocity_after change a.v) (is_member ids a) refl (All-head IsSlow a atoms slow) (All-head (IsFine ids) (changed ids change a) (changed_all ids change atoms) fine))
    (all_slow ids change atoms (All-tail IsSlow a atoms slow) (All-tail (IsFine ids) (changed ids change a) (changed_all ids change atoms) fine))

pub slow_after : (ids : List ℕ) (change : Change) (atoms : List Atom) → All IsSlow atoms → too_fast ids (changed_all ids change atoms) ≡ None → All IsSlow (changed_all ids change atoms)
slow_after ids change atoms slow none = all_slow ids change atoms slow (none_fast ids (changed_all ids change atoms) none)

-- none of the group is faster where the refusal names none
pub none_told : (ids : List ℕ) (atoms : List Atom) (a : Atom) → too_fast ids atoms ≡ None → HasFast ids atoms a → ⊥
none_told ids atoms a none h =
    let slow : is_slow a ≡ true = All-contains (IsFine ids) atoms a (none_fast ids atoms none) h.there h.member in
    let no : true ≡ false = sym slow ∙ h.fast in cc

-- the least
abbrev pub IsBelow : List ℕ → ℕ → Atom → Type 0
IsBelow ids id a = is_member ids a ≡ true → is_slow a ≡ false → id ≤ a.id

least_step : (best : Option ℕ) (n id : ℕ) → id ≤ min (unwrap_or best n) n → IfSome best (λ m. id ≤ m) × (id ≤ n)
least_step None n id low = (tt, omega (arith, low))
least_step (Some m) n id low = (omega (arith, low), omega (arith, low))

first_below : (best : Option ℕ) (t s : Bool) (n id : ℕ) → IfSome (cond t (cond s best (Some (min (unwrap_or best n) n))) best) (λ m. id ≤ m)
    → IfSome best (λ m. id ≤ m) × (t ≡ true → s ≡ false → id ≤ n)
first_below best true true n id low = (low, λ (e : true ≡ true) (f : true ≡ false). cc)
first_below best true false n id low = let h = least_step best n id low in (h.0, λ _ _. h.1)
first_below best false s n id low = (low, λ (e : false ≡ true) (f : s ≡ false). cc)

none_below : (best : Option ℕ) (id : ℕ) → best ≡ Some id → IfSome best (λ m. id ≤ m)
none_below best id e = subst (λ (o : Option ℕ). IfSome o (λ m. id ≤ m)) (sym e) (omega arith)

below : (ids : List ℕ) (atoms : List Atom) (best : Option ℕ) (id : ℕ) → least_fast ids best atoms ≡ Some id → IfSome best (λ m. id ≤ m) × All (IsBelow ids id) atoms
below ids [] best id e = (none_below best id e, All-nil (IsBelow ids id))
below ids (a ∷ atoms) best id e =
    let h = below ids atoms (lesser_fast ids best a) id e in
    let first = first_below best (is_member ids a) (is_slow a) a.id id h.0 in
    (first.0, All-cons (IsBelow ids id) a atoms first.1 h.1)

pub least_told : (ids : List ℕ) (atoms : List Atom) (id : ℕ) (a : Atom) → too_fast ids atoms ≡ Some id → HasFast ids atoms a → id ≤ a.id
least_told ids atoms id a e h = All-contains (IsBelow ids id) atoms a (below ids atoms None id e).1 h.there h.member h.fast

-- and there is such an atom
abbrev Found : List ℕ → List Atom → ℕ → Type 0
Found ids atoms id = (a : Atom) × HasFast ids atoms a × (a.id ≡ id)

there : (ids : List ℕ) (a : Atom) (atoms : List Atom) (id : ℕ) → Found ids atoms id → Found ids (a ∷ atoms) id
there ids a atoms id h = (h.0, record { there = (suc h.1.there.0, omega (arith, h.1.there.1), h.1.there.2); member = h.1.member; fast = h.1.fast }, h.2)

lesser_is : (m n id : ℕ) → m < n → min m n ≡ id → m ≡ id
lesser_is m n id less e = omega (arith, e)

least_of : (best : Option ℕ) (n id : ℕ) → min (unwrap_or best n) n ≡ id → (best ≡ Some id) ⊎ (n ≡ id)
least_of None n id e = inr (omega (arith, e))
least_of (Some m) n id e = ⊎_elim (λ (less : m < n). inl (ap Some (lesser_is m n id less e))) (λ (le : n ≤ m). inr (omega (arith, e))) (cases_lt m n)

here : (ids : List ℕ) (a : Atom) (atoms : List Atom) (best : Option ℕ) (id : ℕ) (t s : Bool) → t ≡ is_member ids a → s ≡ is_slow a
    → cond t (cond s best (Some (min (unwrap_or best a.id) a.id))) best ≡ Some id → (best ≡ Some id) ⊎ Found ids (a ∷ atoms) id
here ids a atoms best id true true member slow e = inl e
here ids a atoms best id true false member slow e =
    let is : min (unwrap_or best a.id) a.id ≡ id = cc in
    ⊎_elim inl (λ same. inr (a, record { there = (0, omega arith, refl); member = sym member; fast = sym slow }, same)) (least_of best a.id id is)
here ids a atoms best id false s member slow e = inl e

found : (ids : List ℕ) (atoms : List Atom) (best : Option ℕ) (id : ℕ) → least_fast ids best atoms ≡ Some id → (best ≡ Some id) ⊎ Found ids atoms id
found ids [] best id e = inl e
found ids (a ∷ atoms) best id e =
    ⊎_elim (here ids a atoms best id (is_member ids a) (is_slow a) refl refl) (λ h. inr (there ids a atoms id h)) (found ids atoms (lesser_fast ids best a) id e)

pub one_told : (ids : List ℕ) (atoms : List Atom) (id : ℕ) → too_fast ids atoms ≡ Some id → Found ids atoms id
one_told ids atoms id e = ⊎_elim (λ (f : None ≡ Some id). cc) (λ h. h) (found ids atoms None id e)
