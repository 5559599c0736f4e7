-- What tests choose of rising ids, and of the atoms that have them.
use Rattle.std.proofs.Common.{◌≡◌, ◌<◌, ◌≤◌, ◌∙◌, ◌||◌, ◌&&◌, ◌+◌, ◌-◌, ℕ, zero, suc, Bool, true, false, cond, eqb, not, Option, Some, None, List, [], ◌∷◌, filter, length, take, drop, get_or, refl, ap, sym, subst, arith}
use Rattle.std.proofs.lemmas.Bool.{eqb-true}
use Rattle.std.proofs.lemmas.Grind.{common_steps}
use Rattle.std.proofs.lemmas.List.{get_or-map, length-map}
use Rattle.std.proofs.lemmas.List.Elements.{All-filter, All-from_get_or, All-map, filter_agree}
use Rattle.std.proofs.lemmas.List.Folds.{list_all_more, list_any_more}
use Rattle.std.proofs.lemmas.Map.Views.{any-filter_same}
use Rattle.std.specs.List.{All, list_any, list_all}
use Rattle.box_geo.specs.declared.atoms.Atom.{Atom}
use Rattle.box_geo.specs.Ids.{is_among, Rises}
use Rattle.box_geo.proofs.IdLemmas.{rises_above, rises_cons, rises_none, rises_tail, Above}
use Rattle.meaning.specs.MassesGroups.{ids_of, ids_under, is_all}
use Rattle.regions_groups.specs.declared.group_table.NamedGroup.{NamedGroup}
use Rattle.regions_groups.specs.Groups.{members}
use Rattle.regions_groups.specs.Ids.{difference, intersection, merged, union_of}
use Rattle.regions_groups.proofs.OrderLemmas.{among_merged, rises_merged, same_ids, told, told_difference, told_either, told_intersection}
use Rattle.run_settings.specs.Members.{has_member, ids_where, is_left_member}

-- chosen ids rise
rises_kept : (b : Bool) (id : ℕ) (ids : List ℕ) → Above id ids → Rises ids → Rises (cond b (id ∷ ids) ids)
rises_kept true id ids above all = rises_cons id ids above all
rises_kept false id ids above all = all

above_filter : (p : ℕ → Bool) (z : ℕ) (ids : List ℕ) → Above z ids → Above z (filter p ids)
above_filter p z ids above =
    let kept : All (λ y. z < y) (filter p ids) = All-filter p (λ y. z < y) ids (All-from_get_or (λ y. z < y) ids 0 above) in
    λ i w. kept i 0 w

pub rises_filter : (p : ℕ → Bool) (ids : List ℕ) → Rises ids → Rises (filter p ids)
rises_filter p [] r = rises_none
rises_filter p (id ∷ ids) r =
    rises_kept (p id) id (filter p ids) (above_filter p id ids (rises_above id ids r)) (rises_filter p ids (rises_tail id ids r))

-- a chosen id is among the ids and passes the test
and_swap : (a b : Bool) → (a && b) ≡ (b && a)
and_swap true true = refl
and_swap true false = refl
and_swap false true = refl
and_swap false false = refl

among_filter : (p : ℕ → Bool) (ids : List ℕ) (id : ℕ) → is_among (filter p ids) id ≡ (is_among ids id && p id)
among_filter p ids id =
    any-filter_same (λ other. eqb other id) p (p id) (λ k e. ap p (eqb-true k id e)) ids ∙ and_swap (p id) (is_among ids id)

-- what a merge has of two choices
told_within : (first both second a p q : Bool) → told first both second (a && p) (a && q) ≡ (a && told first both second p q)
told_within first both second true p q = refl
told_within first both second false p q = refl

merged_filters : (first both second : Bool) (p q : ℕ → Bool) (ids : List ℕ) → Rises ids
    → merged first both second (filter p ids) (filter q ids) ≡ filter (λ id. told first both second (p id) (q id)) ids
merged_filters first both second p q ids r =
    let one = rises_filter p ids r in
    let two = rises_filter q ids r in
    same_ids (merged first both second (filter p ids) (filter q ids)) (filter (λ id. told first both second (p id) (q id)) ids)
    (rises_merged first both second (filter p ids) (filter q ids) one two) (rises_filter (λ id. told first both second (p id) (q id)) ids r)
    (λ id. among_merged first both second (filter p ids) (filter q ids) id one two
    ∙ ap (λ b. told first both second b (is_among (filter q ids) id)) (among_filter p ids id)
    ∙ ap (λ b. told first both second (is_among ids id && p id) b) (among_filter q ids id)
    ∙ told_within first both second (is_among ids id) (p id) (q id)
    ∙ sym (among_filter (λ id. told first both second (p id) (q id)) ids id))

pub union_of-filters : (p q : ℕ → Bool) (ids : List ℕ) → Rises ids → union_of (filter p ids) (filter q ids) ≡ filter (λ id. p id || q id) ids
union_of-filters p q ids r =
    merged_filters true true true p q ids r ∙ filter_agree (λ id. told true true true (p id) (q id)) (λ id. p id || q id) (λ id. told_either (p id) (q id)) ids

pub difference-filters : (p q : ℕ → Bool) (ids : List ℕ) → Rises ids → difference (filter p ids) (filter q ids) ≡ filter (λ id. p id && not (q id)) ids
difference-filters p q ids r =
    merged_filters true false false p q ids r ∙ filter_agree (λ id. told true false false (p id) (q id)) (λ id. p id && not (q id)) (λ id. told_difference (p id) (q id)) ids

pub intersection-filters : (p q : ℕ → Bool) (ids : List ℕ) → Rises ids → intersection (filter p ids) (filter q ids) ≡ filter (λ id. p id && q id) ids
intersection-filters p q ids r =
    merged_filters false true false p q ids r ∙ filter_agree (λ id. told false true false (p id) (q id)) (λ id. p id && q id) (λ id. told_intersection (p id) (q id)) ids

-- the ids that a list has
intersection_filter : (ids given : List ℕ) → Rises ids → Rises given → intersection ids given ≡ filter (is_among given) ids
intersection_filter ids given r g =
    same_ids (intersection ids given) (filter (is_among given) ids) (rises_merged false true false ids given r g) (rises_filter (is_among given) ids r)
    (λ id. among_merged false true false ids given id r g ∙ told_intersection (is_among ids id) (is_among given id) ∙ sym (among_filter (is_among given) ids id))

-- a test that all pass, and one that none does
pub filter_each : (p : ℕ → Bool) (ids : List ℕ) → ((id : ℕ) → p id ≡ true) → filter p ids ≡ ids
filter_each p [] each = refl
filter_each p (id ∷ ids) each = let here = each id in rw here (ap (λ (rest : List ℕ). id ∷ rest) (filter_each p ids each))

pub filter_none : (p : ℕ → Bool) (ids : List ℕ) → ((id : ℕ) → p id ≡ false) → filter p ids ≡ []
filter_none p [] each = refl
filter_none p (id ∷ ids) each = let here = each id in rw here (filter_none p ids each)

-- the ids that a group has: `all`, one that isn't there, one that is
pub in_all_atoms : (groups : List NamedGroup) (name ids : List ℕ) → is_all name ≡ true → filter (λ id. has_member groups id name) ids ≡ ids
in_all_atoms groups name ids e = filter_each (λ id. has_member groups id name) ids (λ id. rw e refl)

pub in_unknown : (groups : List NamedGroup) (name ids : List ℕ) → is_all name ≡ false → members groups name ≡ None → filter (λ id. has_member groups id name) ids ≡ []
in_unknown groups name ids e none = filter_none (λ id. has_member groups id name) ids (λ id. rw (e, none) refl)

pub in_given : (groups : List NamedGroup) (name ids given : List ℕ) → is_all name ≡ false → members groups name ≡ Some given → Rises ids → Rises given
    → intersection ids given ≡ filter (λ id. has_member groups id name) ids
in_given groups name ids given e is r g =
    intersection_filter ids given r g ∙ filter_agree (is_among given) (λ id. has_member groups id name) (λ id. rw (e, is) refl) ids

-- the first of some groups, one more of them
pub any_none : (groups : List NamedGroup) (ids : List ℕ) → filter (λ id. list_any (has_member groups id) []) ids ≡ []
any_none groups ids = filter_none (λ id. false) ids (λ id. refl)

pub all_none : (groups : List NamedGroup) (ids : List ℕ) → filter (λ id. list_all (has_member groups id) []) ids ≡ ids
all_none groups ids = filter_each (λ id. true) ids (λ id. refl)

pub any_more : (groups : List NamedGroup) (ids kept own name : List ℕ) (names : List (List ℕ)) (i : ℕ) → Rises ids → i < length names → name ≡ get_or names i name
    → kept ≡ filter (λ id. list_any (has_member groups id) (take i names)) ids → own ≡ filter (λ id. has_member groups id name) ids
    → union_of kept own ≡ filter (λ id. list_any (has_member groups id) (take (i + 1) names)) ids
any_more groups ids kept own name names i r w is before here =
    ap (λ (l : List ℕ). union_of l own) before
    ∙ ap (λ (l : List ℕ). union_of (filter (λ id. list_any (has_member groups id) (take i names)) ids) l) here
    ∙ union_of-filters (λ id. list_any (has_member groups id) (take i names)) (λ id. has_member groups id name) ids r
    ∙ filter_agree (λ id. list_any (has_member groups id) (take i names) || has_member groups id name) (λ id. list_any (has_member groups id) (take (i + 1) names))
    (λ id. ap (λ (n : List ℕ). list_any (has_member groups id) (take i names) || has_member groups id n) is ∙ sym (list_any_more (has_member groups id) names i name w)) ids

pub all_more : (groups : List NamedGroup) (ids kept own name : List ℕ) (names : List (List ℕ)) (i : ℕ) → Rises ids → i < length names → name ≡ get_or names i name
    → kept ≡ filter (λ id. list_all (has_member groups id) (take i names)) ids → own ≡ filter (λ id. has_member groups id name) ids
    → intersection kept own ≡ filter (λ id. list_all (has_member groups id) (take (i + 1) names)) ids
all_more groups ids kept own name names i r w is before here =
    ap (λ (l : List ℕ). intersection l own) before
    ∙ ap (λ (l : List ℕ). intersection (filter (λ id. list_all (has_member groups id) (take i names)) ids) l) here
    ∙ intersection-filters (λ id. list_all (has_member groups id) (take i names)) (λ id. has_member groups id name) ids r
    ∙ filter_agree (λ id. list_all (has_member groups id) (take i names) && has_member groups id name) (λ id. list_all (has_member groups id) (take (i + 1) names))
    (λ id. ap (λ (n : List ℕ). list_all (has_member groups id) (take i names) && has_member groups id n) is ∙ sym (list_all_more (has_member groups id) names i name w)) ids

-- the first of some groups without the others
pub none_left : (groups : List NamedGroup) (ids : List ℕ) (names : List (List ℕ)) → length names < 1 → filter (λ id. is_left_member groups id names) ids ≡ []
none_left groups ids [] w = filter_none (λ id. false) ids (λ id. refl)
none_left groups ids (name ∷ names) w = absurd (omega arith)

behind : (first : List ℕ) (names : List (List ℕ)) → take (length (first ∷ names) - 1) (drop 1 (first ∷ names)) ≡ names
behind first names = grind (arith, common_steps)

pub first_left : (groups : List NamedGroup) (ids own away name : List ℕ) (names : List (List ℕ)) → Rises ids → 1 ≤ length names → name ≡ get_or names 0 name
    → own ≡ filter (λ id. has_member groups id name) ids → away ≡ filter (λ id. list_any (has_member groups id) (take (length names - 1) (drop 1 names))) ids
    → difference own away ≡ filter (λ id. is_left_member groups id names) ids
first_left groups ids own away name [] r w is one others = absurd (omega arith)
first_left groups ids own away name (first ∷ names) r w is one others =
    ap (λ (l : List ℕ). difference l away) one
    ∙ ap (λ (l : List ℕ). difference (filter (λ id. has_member groups id name) ids) l) others
    ∙ ap (λ (ns : List (List ℕ)). difference (filter (λ id. has_member groups id name) ids) (filter (λ id. list_any (has_member groups id) ns) ids)) (behind first names)
    ∙ difference-filters (λ id. has_member groups id name) (λ id. list_any (has_member groups id) names) ids r
    ∙ ap (λ (n : List ℕ). filter (λ id. has_member groups id n && not (list_any (has_member groups id) names)) ids) is

-- a test of ids, on atoms
ids_kept : (b : Bool) (a : Atom) (atoms : List Atom) (ids : List ℕ) → ids_of atoms ≡ ids → ids_of (cond b (a ∷ atoms) atoms) ≡ cond b (a.id ∷ ids) ids
ids_kept true a atoms ids e = ap (λ (rest : List ℕ). a.id ∷ rest) e
ids_kept false a atoms ids e = e

pub ids_where-id : (p : ℕ → Bool) (atoms : List Atom) → ids_where (λ a. p a.id) atoms ≡ filter p (ids_of atoms)
ids_where-id p [] = refl
ids_where-id p (a ∷ atoms) = ids_kept (p a.id) a (filter (λ (b : Atom). p b.id) atoms) (filter p (ids_of atoms)) (ids_where-id p atoms)

pub ids_where-none : (atoms : List Atom) → ids_where (λ a. false) atoms ≡ []
ids_where-none [] = refl
ids_where-none (a ∷ atoms) = ids_where-none atoms

-- the ids of chosen atoms rise
rises_where_kept : (b : Bool) (a : Atom) (atoms : List Atom) → Above a.id (ids_of atoms) → Rises (ids_of atoms) → Rises (ids_of (cond b (a ∷ atoms) atoms))
rises_where_kept true a atoms above all = rises_cons a.id (ids_of atoms) above all
rises_where_kept false a atoms above all = all

all_above : (z : ℕ) (atoms : List Atom) → Above z (ids_of atoms) → All (λ (a : Atom). z < a.id) atoms
all_above z atoms above k d w =
    subst (λ (y : ℕ). z < y) (get_or-map (λ (a : Atom). a.id) atoms k d 0 w) (above k (omega (arith, length-map atoms (λ (a : Atom). a.id))))

above_where : (p : Atom → Bool) (z : ℕ) (atoms : List Atom) → Above z (ids_of atoms) → Above z (ids_where p atoms)
above_where p z atoms above =
    let kept : All (λ (a : Atom). z < a.id) (filter p atoms) = All-filter p (λ a. z < a.id) atoms (all_above z atoms above) in
    let ids : All (λ y. z < y) (ids_where p atoms) = All-map (λ y. z < y) (λ (a : Atom). a.id) (filter p atoms) kept in
    λ i w. ids i 0 w

pub rises_where : (p : Atom → Bool) (atoms : List Atom) → Rises (ids_of atoms) → Rises (ids_where p atoms)
rises_where p [] r = rises_none
rises_where p (a ∷ atoms) r =
    rises_where_kept (p a) a (filter p atoms) (above_where p a.id atoms (rises_above a.id (ids_of atoms) r)) (rises_where p atoms (rises_tail a.id (ids_of atoms) r))
