-- The members of rising ids, each of which is that of an atom, have just these ids.
use Rattle.std.proofs.Common.{◌≡◌, ◌<◌, ◌⊎◌, ◌||◌, ℕ, zero, suc, Bool, true, false, eqb, ltb, List, [], ◌∷◌, get_or, refl, sym, subst, arith, inl, inr}
use Rattle.std.proofs.lemmas.Bool.{eq-eqb, eqb-true, ltb-false, ltb-true, ne_eqb}
use Rattle.box_geo.specs.declared.atoms.Atom.{Atom}
use Rattle.box_geo.specs.Ids.{is_among, Rises}
use Rattle.box_geo.proofs.IdLemmas.{rises_above, rises_tail, Above}
use Rattle.dump_text.specs.Frame.{AreOf, ids_of, members}
use Rattle.dump_text.proofs.WalkLemmas.{not_above}

differ : (b : Bool) → b ≡ true → b ≡ false → ⊥
differ b one two = cc

three_by : (less same : Bool) (x y : ℕ) → ltb x y ≡ less → eqb x y ≡ same → (x < y) ⊎ ((x ≡ y) ⊎ (y < x))
three_by true same x y l s = inl (ltb-true x y l)
three_by false true x y l s = inr (inl (eqb-true x y s))
three_by false false x y l s = inr (inr (grind (arith, ltb-false x y l)))

three_ways : (x y : ℕ) → (x < y) ⊎ ((x ≡ y) ⊎ (y < x))
three_ways x y = three_by (ltb x y) (eqb x y) x y refl refl

among_first : (id : ℕ) (ids : List ℕ) → is_among (id ∷ ids) id ≡ true
among_first id ids = let e = eq-eqb id id refl in rw e refl

or_right : (b c : Bool) → c ≡ true → (b || c) ≡ true
or_right true c h = refl
or_right false c h = h

above_less : (y z : ℕ) (ids : List ℕ) → y < z → Above z ids → Above y ids
above_less y z ids h all i w = let m : z < get_or ids i 0 = all i w in omega arith

above_cons : (z id : ℕ) (ids : List ℕ) → z < id → Above z ids → Above z (id ∷ ids)
above_cons z id ids h all zero w = h
above_cons z id ids h all (suc i) w = all i (omega arith)

-- ids above the first atom's are those of the other atoms
behind_by : (b : Bool) (a : Atom) (atoms : List Atom) (ids : List ℕ) (id : ℕ) → eqb a.id id ≡ b → Above a.id ids → is_among ids id ≡ true
    → is_among (ids_of (a ∷ atoms)) id ≡ true → is_among (ids_of atoms) id ≡ true
behind_by true a atoms ids id t above h told =
    absurd (differ (is_among ids id) h (not_above id ids (subst (λ z. Above z ids) (eqb-true a.id id t) above)))
behind_by false a atoms ids id t above h told = rw t at told

behind : (a : Atom) (atoms : List Atom) (ids : List ℕ) → Above a.id ids → AreOf ids (a ∷ atoms) → AreOf ids atoms
behind a atoms ids above all id h = behind_by (eqb a.id id) a atoms ids id refl above h (all id h)

-- an id below those of all atoms has no member
without_first : (x : ℕ) (xs : List ℕ) (atoms : List Atom) → Above x (ids_of atoms) → members (x ∷ xs) atoms ≡ members xs atoms
without_first x xs [] all = refl
without_first x xs (a ∷ atoms) all =
    let h : x < a.id = all 0 (omega arith) in
    let e : eqb x a.id ≡ false = ne_eqb x a.id (omega arith) in
    let rest : members (x ∷ xs) atoms ≡ members xs atoms = without_first x xs atoms (λ i w. all (suc i) (omega arith)) in
    rw (e, rest) refl

pub members_are : (atoms : List Atom) (ids : List ℕ) → Rises ids → Rises (ids_of atoms) → AreOf ids atoms → ids_of (members ids atoms) ≡ ids
members_are [] [] r s all = refl
members_are [] (x ∷ xs) r s all = absurd (differ false (all x (among_first x xs)) refl)
members_are (a ∷ atoms) [] r s all =
    members_are atoms [] r (rises_tail a.id (ids_of atoms) s) (λ id h. absurd (differ false h refl))
members_are (a ∷ atoms) (x ∷ xs) r s all =
    let above : Above a.id (ids_of atoms) = rises_above a.id (ids_of atoms) s in
    let tail : Above x xs = rises_above x xs r in
    let go = members_are atoms in
    elim (three_ways x a.id) [
      | inl h ↦ absurd (differ (is_among (ids_of (a ∷ atoms)) x) (all x (among_first x xs))
          (not_above x (ids_of (a ∷ atoms)) (above_cons x a.id (ids_of atoms) h (above_less x a.id (ids_of atoms) h above))))
      | inr w ↦ elim w [
        | inl h ↦
            let e : eqb x a.id ≡ true = eq-eqb x a.id h in
            let tail_above : Above a.id xs = subst (λ z. Above z xs) h tail in
            let later : Above x (ids_of atoms) = subst (λ z. Above z (ids_of atoms)) (sym h) above in
            let rest : ids_of (members xs atoms) ≡ xs =
            go xs (rises_tail x xs r) (rises_tail a.id (ids_of atoms) s)
            (behind a atoms xs tail_above (λ id w. all id (or_right (eqb x id) (is_among xs id) w))) in
            rw (e, without_first x xs atoms later, rest, h) refl
        | inr h ↦
            let all_above : Above a.id (x ∷ xs) = above_cons a.id x xs h (above_less a.id x xs h tail) in
            let none : is_among (x ∷ xs) a.id ≡ false = not_above a.id (x ∷ xs) all_above in
            rw none (go (x ∷ xs) r (rises_tail a.id (ids_of atoms) s) (behind a atoms (x ∷ xs) all_above all))
      ]
    ]
