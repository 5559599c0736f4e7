-- Rows of weights: what is n bonds away from an atom is what a path of n bonds leads to.
use Rattle.std.proofs.Common.{◌≡◌, ◌+◌, ◌^◌, ◌<◌, ◌==◌, ◌&&◌, ◌||◌, Bool, true, false, cond, ℕ, zero, suc, Option, Some, None, IfSome, List, [], ◌∷◌, ◌++◌, length, take, flat_map, get_or, is_some, refl, sym, ap, ◌∙◌, arith}
use Rattle.std.specs.Prelude.{slice_index, unwrap_or}
use Rattle.std.specs.BTreeMap.{BTreeMap, get, is_at}
use Rattle.std.specs.List.{list_any}
use Rattle.std.specs.Ordering.{nat_cmp}
use Rattle.std.proofs.lemmas.Bool.{or_parts}
use Rattle.std.proofs.lemmas.Bool.Decides.{nat_tests}
use Rattle.std.proofs.lemmas.List.{flat_map_more, take_more}
use Rattle.std.proofs.lemmas.List.Folds.{list_any-append, list_any_more}
use Rattle.box_geo.specs.declared.atoms.Bond.{Bond}
use Rattle.bonded.specs.Paths.{has_path, special_weight}
use Rattle.bonded.specs.Rows.{entry, has, is_end, joins, level, neighbours, weight_by, weight_in, AreLinks, AreRows, IsRow}
use Rattle.bonded.proofs.PathLemmas.{chosen, tests_alike, weight_is}

-- a row with one weight more
at_is : (k q : ℕ) → is_at (nat_cmp k) q ≡ (k == q)
at_is k q = grind (arith, nat_tests)

one_more : (a b : Bool) (now old : Option ℕ) (w : ℕ) → now ≡ cond b (Some w) old → cond a (Some w) now ≡ cond (b || a) (Some w) old
one_more true true now old w e = refl
one_more true false now old w e = refl
one_more false true now old w e = e
one_more false false now old w e = e

pub put_more : (ids : List ℕ) (i w other : ℕ) (new now old : Option ℕ) → i < length ids → new ≡ cond (is_at (nat_cmp (get_or ids i 0)) other) (Some w) now
    → now ≡ cond (has other (take i ids)) (Some w) old → new ≡ cond (has other (take (i + 1) ids)) (Some w) old
put_more ids i w other new now old lt is before =
    is
    ∙ ap (λ (t : Bool). cond t (Some w) now) (at_is (get_or ids i 0) other)
    ∙ one_more (get_or ids i 0 == other) (has other (take i ids)) now old w before
    ∙ ap (λ (t : Bool). cond t (Some w) old) (sym (list_any_more (λ (x : ℕ). x == other) ids i 0 lt))

four : (a b c d : Bool) → ((a || b) || (c || d)) ≡ ((a || c) || (b || d))
four true b c d = refl
four false true true d = refl
four false true false d = refl
four false false true d = refl
four false false false d = refl

-- tests over lists
module _ {X : Type 0} where
  pub any_along : (p q : X → Bool) → ((x : X) → p x ≡ q x) → (xs : List X) → list_any p xs ≡ list_any q xs
  any_along p q e [] = refl
  any_along p q e (x ∷ xs) = ap (λ (t : Bool). t || list_any p xs) (e x) ∙ ap (λ (t : Bool). q x || t) (any_along p q e xs)

  any_false : (xs : List X) → false ≡ list_any (λ (x : X). false) xs
  any_false [] = refl
  any_false (x ∷ xs) = any_false xs

  any_or : (p q : X → Bool) (xs : List X) → (list_any p xs || list_any q xs) ≡ list_any (λ (x : X). p x || q x) xs
  any_or p q [] = refl
  any_or p q (x ∷ xs) = four (p x) (list_any p xs) (q x) (list_any q xs) ∙ ap (λ (t : Bool). (p x || q x) || t) (any_or p q xs)

exchanged : {X Y : Type 0} (p : X → Y → Bool) (xs : List X) (ys : List Y) → list_any (λ (x : X). list_any (p x) ys) xs ≡ list_any (λ (y : Y). list_any (λ (x : X). p x y) xs) ys
exchanged p [] ys = any_false ys
exchanged {X} {Y} p (x ∷ xs) ys = ap (λ (t : Bool). list_any (p x) ys || t) (exchanged p xs ys) ∙ any_or (p x) (λ (y : Y). list_any (λ (z : X). p z y) xs) ys

has_flat : (f : ℕ → List ℕ) (t : ℕ) (ids : List ℕ) → has t (flat_map f ids) ≡ list_any (λ (c : ℕ). has t (f c)) ids
has_flat f t [] = refl
has_flat f t (c ∷ ids) = list_any-append (λ (x : ℕ). x == t) (f c) (flat_map f ids) ∙ ap (λ (b : Bool). has t (f c) || b) (has_flat f t ids)

equal_comm : (a b : ℕ) → (a == b) ≡ (b == a)
equal_comm a b = grind (arith, nat_tests)

both_ends : (p q r u x y : Bool) → (((p && q) || (r && u)) || ((u && x) || (q && y))) ≡ ((u && (r || x)) || (q && (p || y)))
both_ends true true true true x y = refl
both_ends true true true false x y = refl
both_ends true true false true true y = refl
both_ends true true false true false y = refl
both_ends true true false false x y = refl
both_ends true false true true x y = refl
both_ends true false true false x y = refl
both_ends true false false true true y = refl
both_ends true false false true false y = refl
both_ends true false false false x y = refl
both_ends false true true true x y = refl
both_ends false true true false x y = refl
both_ends false true false true true y = refl
both_ends false true false true false y = refl
both_ends false true false false x y = refl
both_ends false false true true x y = refl
both_ends false false true false x y = refl
both_ends false false false true true y = refl
both_ends false false false true false y = refl
both_ends false false false false x y = refl

neither : (u q : Bool) → false ≡ ((u && false) || (q && false))
neither true true = refl
neither true false = refl
neither false true = refl
neither false false = refl

-- a bond joins t to one of some atoms
joined : (bond : Bond) (t : ℕ) (ids : List ℕ) → list_any (λ (c : ℕ). joins bond c t) ids ≡ (((bond.a == t) && has bond.b ids) || ((bond.b == t) && has bond.a ids))
joined bond t [] = neither (bond.a == t) (bond.b == t)
joined bond t (c ∷ ids) =
    ap (λ (b : Bool). joins bond c t || b) (joined bond t ids)
    ∙ both_ends (bond.a == c) (bond.b == t) (bond.b == c) (bond.a == t) (has bond.b ids) (has bond.a ids)
    ∙ ap (λ (b : Bool). ((bond.a == t) && (b || has bond.b ids)) || ((bond.b == t) && ((bond.a == c) || has bond.a ids))) (equal_comm bond.b c)
    ∙ ap (λ (b : Bool). ((bond.a == t) && ((c == bond.b) || has bond.b ids)) || ((bond.b == t) && (b || has bond.a ids))) (equal_comm bond.a c)

module _ (bonds : List Bond) (links : BTreeMap ℕ (List ℕ)) (are : AreLinks bonds links) where
  pub level_is : (n t s : ℕ) → has t (level links n s) ≡ has_path bonds n t s
  level_is zero t s = grind (arith, nat_tests)
  level_is (suc n) t s =
      has_flat (neighbours links) t (level links n s)
      ∙ any_along (λ (c : ℕ). has t (neighbours links c)) (λ (c : ℕ). list_any (λ (bond : Bond). joins bond c t) bonds) (λ c. are c t) (level links n s)
      ∙ exchanged (λ (c : ℕ) (bond : Bond). joins bond c t) (level links n s) bonds
      ∙ any_along (λ (bond : Bond). list_any (λ (c : ℕ). joins bond c t) (level links n s)) (λ (bond : Bond). ((bond.a == t) && has_path bonds n bond.b s) || ((bond.b == t) && has_path bonds n bond.a s))
      (λ bond. joined bond t (level links n s)
      ∙ ap (λ (b : Bool). ((bond.a == t) && b) || ((bond.b == t) && has bond.a (level links n s))) (level_is n bond.b s)
      ∙ ap (λ (b : Bool). ((bond.a == t) && has_path bonds n bond.b s) || ((bond.b == t) && b)) (level_is n bond.a s)) bonds

  -- the entry of a row is the special weight
  by_tests : (x y z w : ℕ) (p q r s : Bool) → unwrap_or (cond p (Some w) (cond q (Some x) (cond r (Some y) (cond s (Some z) None)))) w ≡ chosen x y z w p q r s
  by_tests x y z w true q r s = refl
  by_tests x y z w false true r s = refl
  by_tests x y z w false false true s = refl
  by_tests x y z w false false false true = refl
  by_tests x y z w false false false false = refl

  entry_weight : (weights : List ℕ) (a b : ℕ) → unwrap_or (entry links weights b a) (2 ^ 24) ≡ special_weight bonds weights a b
  entry_weight weights a b =
      by_tests (slice_index weights 0) (slice_index weights 1) (slice_index weights 2) (2 ^ 24) (has a (level links 0 b)) (has a (level links 1 b)) (has a (level links 2 b)) (has a (level links 3 b))
      ∙ tests_alike bonds weights (has a (level links 0 b)) (has a (level links 1 b)) (has a (level links 2 b)) (has a (level links 3 b)) (has_path bonds 0 a b) (has_path bonds 1 a b) (has_path bonds 2 a b) (has_path bonds 3 a b)
      (level_is 0 a b) (level_is 1 a b) (level_is 2 a b) (level_is 3 a b)
      ∙ sym (weight_is bonds weights a b)

-- what more atoms lead to
pub next_more : (f : ℕ → List ℕ) (ids : List ℕ) (i : ℕ) (made new piece : List ℕ) → new ≡ made ++ piece → piece ≡ f (get_or ids i 0) → made ≡ flat_map f (take i ids) → i < length ids → new ≡ flat_map f (take (i + 1) ids)
next_more f ids i made new piece en ep em lt =
    en ∙ ap (λ (l : List ℕ). l ++ piece) em ∙ ap (λ (l : List ℕ). flat_map f (take i ids) ++ l) ep
    ∙ flat_map_more f [] (take i ids) (get_or ids i 0)
    ∙ ap (flat_map f) (sym (take_more ids i 0 lt))

-- an atom that no bond has as an end
no_end : (p q r s : Bool) → (p || q) ≡ false → ((r && q) || (s && p)) ≡ false
no_end true q r s h = absurd cc
no_end false true r s h = absurd cc
no_end false false true true h = refl
no_end false false true false h = refl
no_end false false false true h = refl
no_end false false false false h = refl

none_joined : (xs : List Bond) (t s : ℕ) → false ≡ list_any (is_end s) xs → list_any (λ (bond : Bond). ((bond.a == t) && (bond.b == s)) || ((bond.b == t) && (bond.a == s))) xs ≡ false
none_joined [] t s h = refl
none_joined (bond ∷ xs) t s h =
    let parts = or_parts (is_end s bond) (list_any (is_end s) xs) (sym h) in
    ap (λ (b : Bool). b || list_any (λ (bond : Bond). ((bond.a == t) && (bond.b == s)) || ((bond.b == t) && (bond.a == s))) xs) (no_end (bond.a == s) (bond.b == s) (bond.a == t) (bond.b == t) parts.0)
    ∙ none_joined xs t s (sym parts.1)

nothing : (a b : Bool) → ((a && false) || (b && false)) ≡ false
nothing a b = sym (neither a b)

lonely : (bonds : List Bond) (n t s : ℕ) → false ≡ list_any (is_end s) bonds → has_path bonds (suc n) t s ≡ false
lonely bonds zero t s h = none_joined bonds t s h
lonely bonds (suc n) t s h =
    any_along (λ (bond : Bond). ((bond.a == t) && has_path bonds (suc n) bond.b s) || ((bond.b == t) && has_path bonds (suc n) bond.a s)) (λ (bond : Bond). false)
    (λ bond. ap (λ (b : Bool). ((bond.a == t) && b) || ((bond.b == t) && has_path bonds (suc n) bond.a s)) (lonely bonds n bond.b s h)
    ∙ ap (λ (b : Bool). ((bond.a == t) && false) || ((bond.b == t) && b)) (lonely bonds n bond.a s h)
    ∙ nothing (bond.a == t) (bond.b == t)) bonds
    ∙ sym (any_false bonds)

whole : (x y z w : ℕ) (p : Bool) → chosen x y z w p false false false ≡ w
whole x y z w true = refl
whole x y z w false = refl

lonely_weight : (bonds : List Bond) (weights : List ℕ) (a b : ℕ) → false ≡ list_any (is_end b) bonds → 2 ^ 24 ≡ special_weight bonds weights a b
lonely_weight bonds weights a b h =
    sym (weight_is bonds weights a b
    ∙ tests_alike bonds weights (has_path bonds 0 a b) (has_path bonds 1 a b) (has_path bonds 2 a b) (has_path bonds 3 a b) (has_path bonds 0 a b) false false false
    refl (lonely bonds 0 a b h) (lonely bonds 1 a b h) (lonely bonds 2 a b h)
    ∙ whole (slice_index weights 0) (slice_index weights 1) (slice_index weights 2) (2 ^ 24) (has_path bonds 0 a b))

-- the whole table
by_row : (bonds : List Bond) (links : BTreeMap ℕ (List ℕ)) (weights : List ℕ) → AreLinks bonds links → (a b : ℕ) (o : Option (BTreeMap ℕ ℕ)) → IfSome o (IsRow links weights b) → is_some o ≡ list_any (is_end b) bonds
    → weight_by o a ≡ special_weight bonds weights a b
by_row bonds links weights are a b None row ends = lonely_weight bonds weights a b ends
by_row bonds links weights are a b (Some r) row ends = ap (λ (o : Option ℕ). unwrap_or o (2 ^ 24)) (row a) ∙ entry_weight bonds links are weights a b

pub weights_are : (bonds : List Bond) (links : BTreeMap ℕ (List ℕ)) (weights : List ℕ) (rows : BTreeMap ℕ (BTreeMap ℕ ℕ)) → AreLinks bonds links → AreRows links weights rows
    → ((id : ℕ) → is_some (get nat_cmp rows id) ≡ list_any (is_end id) bonds) → (a b : ℕ) → weight_in rows a b ≡ special_weight bonds weights a b
weights_are bonds links weights rows are all ends a b = by_row bonds links weights are a b (get nat_cmp rows b) (all b) (ends b)
