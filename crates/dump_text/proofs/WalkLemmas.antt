-- A walk through rising ids beside rising atoms meets the members.
use Rattle.std.proofs.Common.{◌≡◌, ◌∙◌, ◌+◌, ◌<◌, ◌≤◌, ◌||◌, ◌++◌, ℕ, suc, Bool, true, false, cond, eqb, ltb, List, [], ◌∷◌, length, drop, get_or, refl, ap, sym, subst, arith, add-one, drop-cons}
use Rattle.std.proofs.lemmas.Bool.{ltb-false, ltb-true, ne_eqb}
use Rattle.std.proofs.lemmas.List.{drop-drop}
use Rattle.box_geo.specs.declared.atoms.Atom.{Atom}
use Rattle.box_geo.specs.Ids.{is_among, Rises}
use Rattle.box_geo.proofs.IdLemmas.{rises_above, rises_tail, Above}
use Rattle.dump_text.specs.Frame.{ids_of, members}
use Rattle.dump_text.specs.Walk.{begins_with, ids_from, one_if}

or_false : (b : Bool) → (b || false) ≡ b
or_false true = refl
or_false false = refl

-- an id below all others is not among them
pub not_above : (z : ℕ) (ids : List ℕ) → ((i : ℕ) → i < length ids → z < get_or ids i 0) → is_among ids z ≡ false
not_above z [] all = refl
not_above z (id ∷ ids) all =
    let h : z < id = all 0 (omega arith) in
    let e : eqb id z ≡ false = ne_eqb id z (omega arith) in
    let rest : is_among ids z ≡ false = not_above z ids (λ i w. all (suc i) (omega arith)) in
    rw (e, rest) refl

-- the ids that are left have the same ids from there on
same_by : (b : Bool) (x z y : ℕ) (ids : List ℕ) → ltb x z ≡ b → z ≤ y → is_among (ids_from z ids) y ≡ is_among ids y
    → is_among (cond b (ids_from z ids) (x ∷ ids)) y ≡ is_among (x ∷ ids) y
same_by true x z y ids t h go =
    let less : x < z = ltb-true x z t in
    let e : eqb x y ≡ false = ne_eqb x y (omega arith) in
    rw e go
same_by false x z y ids t h go = refl

same_above : (z y : ℕ) (ids : List ℕ) → z ≤ y → is_among (ids_from z ids) y ≡ is_among ids y
same_above z y [] h = refl
same_above z y (x ∷ ids) h = same_by (ltb x z) x z y ids refl h (same_above z y ids h)

-- an id is among rising ids just where it is the first that is left
first_by : (b : Bool) (x z : ℕ) (ids : List ℕ) → ltb x z ≡ b → Rises (x ∷ ids) → begins_with (ids_from z ids) z ≡ is_among ids z
    → begins_with (cond b (ids_from z ids) (x ∷ ids)) z ≡ is_among (x ∷ ids) z
first_by true x z ids t rises go =
    let less : x < z = ltb-true x z t in
    let e : eqb x z ≡ false = ne_eqb x z (omega arith) in
    rw e go
first_by false x z ids t rises go =
    let h : z ≤ x = ltb-false x z t in
    let above : Above x ids = rises_above x ids rises in
    let e : is_among ids z ≡ false = not_above z ids (λ i w. let m : x < get_or ids i 0 = above i w in omega arith) in
    rw e (sym (or_false (eqb x z)))

first_is : (z : ℕ) (ids : List ℕ) → Rises ids → begins_with (ids_from z ids) z ≡ is_among ids z
first_is z [] rises = refl
first_is z (x ∷ ids) rises = first_by (ltb x z) x z ids refl rises (first_is z ids (rises_tail x ids rises))

rises_by : (b : Bool) (z x : ℕ) (ids : List ℕ) → Rises (x ∷ ids) → Rises (ids_from z ids) → Rises (cond b (ids_from z ids) (x ∷ ids))
rises_by true z x ids rises rest = rest
rises_by false z x ids rises rest = rises

pub rises_from : (z : ℕ) (ids : List ℕ) → Rises ids → Rises (ids_from z ids)
rises_from z [] rises = rises
rises_from z (x ∷ ids) rises = rises_by (ltb x z) z x ids rises (rises_from z ids (rises_tail x ids rises))

-- atoms above an id have the same members by the ids that are left
same_members : (z : ℕ) (ids : List ℕ) (atoms : List Atom) → Above z (ids_of atoms) → members (ids_from z ids) atoms ≡ members ids atoms
same_members z ids [] all = refl
same_members z ids (a ∷ atoms) all =
    let h : z < a.id = all 0 (omega arith) in
    let here : is_among (ids_from z ids) a.id ≡ is_among ids a.id = same_above z a.id ids (omega arith) in
    let rest : members (ids_from z ids) atoms ≡ members ids atoms = same_members z ids atoms (λ i w. all (suc i) (omega arith)) in
    rw (here, rest) refl

-- one more atom
step_by : (kept : Bool) (a : Atom) (atoms : List Atom) → cond kept (a ∷ atoms) atoms ≡ one_if kept a ++ atoms
step_by true a atoms = refl
step_by false a atoms = refl

members_step : (a : Atom) (atoms : List Atom) (ids : List ℕ) → Rises (ids_of (a ∷ atoms)) → Rises ids
    → members ids (a ∷ atoms) ≡ one_if (begins_with (ids_from a.id ids) a.id) a ++ members (ids_from a.id ids) atoms
members_step a atoms ids rises_atoms rises_ids =
    let first = first_is a.id ids rises_ids in
    let rest : members (ids_from a.id ids) atoms ≡ members ids atoms = same_members a.id ids atoms (rises_above a.id (ids_of atoms) rises_atoms) in
    rw (first, rest) (step_by (is_among ids a.id) a (members ids atoms))

here : (atoms : List Atom) (i : ℕ) (d : Atom) → i < length atoms → drop i atoms ≡ get_or atoms i d ∷ drop (i + 1) atoms
here atoms i d h = rw add-one (drop-cons atoms i d h)

-- the ids of the atoms that are left rise
rises_next : (atoms : List Atom) → Rises (ids_of atoms) → Rises (ids_of (drop 1 atoms))
rises_next [] rises = rises
rises_next (a ∷ atoms) rises = rises_tail a.id (ids_of atoms) rises

pub rises_behind : (atoms : List Atom) (i : ℕ) → Rises (ids_of (drop i atoms)) → Rises (ids_of (drop (i + 1) atoms))
rises_behind atoms i rises = subst (λ (xs : List Atom). Rises (ids_of xs)) (drop-drop 1 i atoms) (rises_next (drop i atoms) rises)

pub rises_left : (atoms : List Atom) (i : ℕ) (d : Atom) (ids rest : List ℕ) → rest ≡ ids_from (get_or atoms i d).id ids → Rises ids → Rises rest
rises_left atoms i d ids rest e rises = subst (λ (xs : List ℕ). Rises xs) (sym e) (rises_from (get_or atoms i d).id ids rises)

-- the members among the atoms from a place on
pub members_more : (atoms : List Atom) (i : ℕ) (d : Atom) (ids rest : List ℕ) → i < length atoms → Rises (ids_of (drop i atoms)) → Rises ids
    → rest ≡ ids_from (get_or atoms i d).id ids
    → members ids (drop i atoms) ≡ one_if (begins_with rest (get_or atoms i d).id) (get_or atoms i d) ++ members rest (drop (i + 1) atoms)
members_more atoms i d ids rest h rises_atoms rises_ids e =
    let at : drop i atoms ≡ get_or atoms i d ∷ drop (i + 1) atoms = here atoms i d h in
    ap (λ (xs : List Atom). members ids xs) at
    ∙ members_step (get_or atoms i d) (drop (i + 1) atoms) ids (subst (λ (xs : List Atom). Rises (ids_of xs)) at rises_atoms) rises_ids
    ∙ ap (λ (r : List ℕ). one_if (begins_with r (get_or atoms i d).id) (get_or atoms i d) ++ members r (drop (i + 1) atoms)) (sym e)

-- and their number
pub counted_one : (atoms : List Atom) (i : ℕ) (d : Atom) (ids rest : List ℕ) → i < length atoms → Rises (ids_of (drop i atoms)) → Rises ids
    → rest ≡ ids_from (get_or atoms i d).id ids → begins_with rest (get_or atoms i d).id ≡ true
    → length (members ids (drop i atoms)) ≡ length (members rest (drop (i + 1) atoms)) + 1
counted_one atoms i d ids rest h rises_atoms rises_ids e kept =
    ap length (members_more atoms i d ids rest h rises_atoms rises_ids e)
    ∙ ap (λ b. length (one_if b (get_or atoms i d) ++ members rest (drop (i + 1) atoms))) kept
    ∙ sym (add-one (length (members rest (drop (i + 1) atoms))))

pub counted_none : (atoms : List Atom) (i : ℕ) (d : Atom) (ids rest : List ℕ) → i < length atoms → Rises (ids_of (drop i atoms)) → Rises ids
    → rest ≡ ids_from (get_or atoms i d).id ids → begins_with rest (get_or atoms i d).id ≡ false
    → length (members ids (drop i atoms)) ≡ length (members rest (drop (i + 1) atoms))
counted_none atoms i d ids rest h rises_atoms rises_ids e kept =
    ap length (members_more atoms i d ids rest h rises_atoms rises_ids e)
    ∙ ap (λ b. length (one_if b (get_or atoms i d) ++ members rest (drop (i + 1) atoms))) kept
