-- What going through the ids one by one finds: an id that two fixes move, and none above any such id.
use Rattle.std.proofs.Common.{◌≡◌, ◌≤◌, ◌+◌, ◌⊎◌, inl, inr, Bool, true, false, cond, min, ℕ, suc, length, Option, Some, None, List, [], ◌∷◌, IfSome, IsSomeAnd, nat_le, nat_eq, refl, sym, subst, arith}
use Rattle.std.specs.List.{list_any}
use Rattle.std.specs.Option.{unwrap_or}
use Rattle.std.specs.Prelude.{◌||◌}
use Rattle.std.proofs.lemmas.Bool.Decides.{nat_tests}
use Rattle.fix_list.specs.declared.fixes.NamedFix.{NamedFix}
use Rattle.fix_list.specs.Fixes.{fix_moves, ids_of, movers}
use Rattle.fix_list.specs.Least.{least_among, least_over, lesser_twice}

-- two fixes move the id, if there is one
abbrev IsTwice : List NamedFix → Option ℕ → Type 0
IsTwice fixes least = IfSome least (λ x. 2 ≤ movers fixes x)

-- there is an id, and it is at most another
abbrev IsAtMost : Option ℕ → ℕ → Type 0
IsAtMost least id = IsSomeAnd least (λ x. x ≤ id)

lesser : (m n : ℕ) → (min m n ≡ m) ⊎ (min m n ≡ n)
lesser m n = grind arith

lesser_has : (P : ℕ → Type 0) (m n : ℕ) → P m → P n → P (min m n)
lesser_has P m n p q = elim (lesser m n) [ inl e ↦ subst P (sym e) p | inr e ↦ subst P (sym e) q ]

step-twice : (fixes : List NamedFix) (least : Option ℕ) (id : ℕ) → IsTwice fixes least → IsTwice fixes (lesser_twice fixes least id)
step-twice fixes least id h = by_test (nat_le 2 (movers fixes id)) least (λ e. grind (arith, nat_tests)) h
  where
    by_test : (b : Bool) (least : Option ℕ) → (b ≡ true → 2 ≤ movers fixes id) → IsTwice fixes least → IsTwice fixes (cond b (Some (min (unwrap_or least id) id)) least)
    by_test false least t h = h
    by_test true None t h = lesser_has (λ x. 2 ≤ movers fixes x) id id (t refl) (t refl)
    by_test true (Some x) t h = lesser_has (λ y. 2 ≤ movers fixes y) x id h (t refl)

step-at_most : (fixes : List NamedFix) (least : Option ℕ) (id k : ℕ) → IsAtMost least k → IsAtMost (lesser_twice fixes least id) k
step-at_most fixes least id k h = by_test (nat_le 2 (movers fixes id)) least h
  where
    by_test : (b : Bool) (least : Option ℕ) → IsAtMost least k → IsAtMost (cond b (Some (min (unwrap_or least id) id)) least) k
    by_test false least h = h
    by_test true None h = absurd h
    by_test true (Some x) h = omega arith

step-takes : (fixes : List NamedFix) (least : Option ℕ) (id : ℕ) → 2 ≤ movers fixes id → IsAtMost (lesser_twice fixes least id) id
step-takes fixes least id t = by_test (nat_le 2 (movers fixes id)) least (grind (arith, nat_tests))
  where
    by_test : (b : Bool) (least : Option ℕ) → b ≡ true → IsAtMost (cond b (Some (min (unwrap_or least id) id)) least) id
    by_test false least e = absurd (cc)
    by_test true None e = omega arith
    by_test true (Some x) e = omega arith

among-twice : (fixes : List NamedFix) (ids : List ℕ) (least : Option ℕ) → IsTwice fixes least → IsTwice fixes (least_among fixes ids least)
among-twice fixes [] least h = h
among-twice fixes (id ∷ ids) least h = among-twice fixes ids (lesser_twice fixes least id) (step-twice fixes least id h)

among-at_most : (fixes : List NamedFix) (ids : List ℕ) (least : Option ℕ) (k : ℕ) → IsAtMost least k → IsAtMost (least_among fixes ids least) k
among-at_most fixes [] least k h = h
among-at_most fixes (id ∷ ids) least k h = among-at_most fixes ids (lesser_twice fixes least id) k (step-at_most fixes least id k h)

among-takes : (fixes : List NamedFix) (ids : List ℕ) (least : Option ℕ) (k : ℕ) → 2 ≤ movers fixes k → list_any (λ x. nat_eq x k) ids ≡ true → IsAtMost (least_among fixes ids least) k
among-takes fixes [] least k t e = absurd (cc)
among-takes fixes (id ∷ ids) least k t e = by_place (either id k (list_any (λ x. nat_eq x k) ids) e) (among-takes fixes ids (lesser_twice fixes least id) k t)
  where
    either : (a b : ℕ) (rest : Bool) → (nat_eq a b || rest) ≡ true → (a ≡ b) ⊎ (rest ≡ true)
    either a b rest e = grind (arith, nat_tests)

    by_place : (id ≡ k) ⊎ (list_any (λ x. nat_eq x k) ids ≡ true) → (list_any (λ x. nat_eq x k) ids ≡ true → IsAtMost (least_among fixes (id ∷ ids) least) k) → IsAtMost (least_among fixes (id ∷ ids) least) k
    by_place (inl e) later = among-at_most fixes ids (lesser_twice fixes least id) k (subst (λ (n : ℕ). IsAtMost (lesser_twice fixes least n) k) (sym e) (step-takes fixes least k t))
    by_place (inr e) later = later e

over-twice : (fixes rest : List NamedFix) (least : Option ℕ) → IsTwice fixes least → IsTwice fixes (least_over fixes rest least)
over-twice fixes [] least h = h
over-twice fixes (named ∷ rest) least h = over-twice fixes rest (least_among fixes (ids_of named.fix) least) (among-twice fixes (ids_of named.fix) least h)

over-at_most : (fixes rest : List NamedFix) (least : Option ℕ) (k : ℕ) → IsAtMost least k → IsAtMost (least_over fixes rest least) k
over-at_most fixes [] least k h = h
over-at_most fixes (named ∷ rest) least k h = over-at_most fixes rest (least_among fixes (ids_of named.fix) least) k (among-at_most fixes (ids_of named.fix) least k h)

over-takes : (fixes rest : List NamedFix) (least : Option ℕ) (k : ℕ) → 2 ≤ movers fixes k → 1 ≤ movers rest k → IsAtMost (least_over fixes rest least) k
over-takes fixes [] least k t one = absurd (omega arith)
over-takes fixes (named ∷ rest) least k t one = by_place (either (fix_moves named.fix k) (movers rest k) one) (over-takes fixes rest (least_among fixes (ids_of named.fix) least) k t)
  where
    either : (b : Bool) (n : ℕ) → 1 ≤ cond b 1 0 + n → (b ≡ true) ⊎ (1 ≤ n)
    either true n h = inl refl
    either false n h = inr (omega arith)

    by_place : (fix_moves named.fix k ≡ true) ⊎ (1 ≤ movers rest k) → (1 ≤ movers rest k → IsAtMost (least_over fixes (named ∷ rest) least) k) → IsAtMost (least_over fixes (named ∷ rest) least) k
    by_place (inl e) later = over-at_most fixes rest (least_among fixes (ids_of named.fix) least) k (among-takes fixes (ids_of named.fix) least k t e)
    by_place (inr h) later = later h

-- of all fixes: what is found is moved by two
pub found-twice : (fixes : List NamedFix) (least : Option ℕ) → least ≡ least_over fixes fixes None → IfSome least (λ x. 2 ≤ movers fixes x)
found-twice fixes least e = subst (λ (o : Option ℕ). IsTwice fixes o) (sym e) (over-twice fixes fixes None tt)

-- and each id that two fixes move is at least what is found
pub found-least : (fixes : List NamedFix) (least : Option ℕ) (id : ℕ) → least ≡ least_over fixes fixes None → 2 ≤ movers fixes id → IsSomeAnd least (λ x. x ≤ id)
found-least fixes least id e t = subst (λ (o : Option ℕ). IsAtMost o id) (sym e) (over-takes fixes fixes None id t (omega arith))

-- no more fixes move an id than there are
pub movers-le : (fixes : List NamedFix) (id : ℕ) → movers fixes id ≤ length fixes
movers-le [] id = omega arith
movers-le (named ∷ fixes) id = at_most_one (fix_moves named.fix id) (movers fixes id) (length fixes) (movers-le fixes id)
  where
    at_most_one : (b : Bool) (m n : ℕ) → m ≤ n → cond b 1 0 + m ≤ suc n
    at_most_one true m n h = omega arith
    at_most_one false m n h = omega arith
