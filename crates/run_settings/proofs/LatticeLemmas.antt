-- What `create_box` and `create_atoms` make keeps to its limits.
use Rattle.std.proofs.Common.{arith, refl, sym, ap, subst, ◌≡◌, ◌<◌, ◌≤◌, ◌+◌, ◌-◌, ◌++◌, ◌∷◌, ◌∙◌, ◌||◌, ◌&&◌, [], get_or, append_assoc, length-append, inl, length, zero, suc, pos, max, nat_lt, cond, Bool, true, false, List, ℕ, ℤ, Option, Some, None, unwrap_or, IfOk, IfSome, Result, Ok, Err}
use Rattle.std.proofs.Math.Nat.{le-max_left, le-max_right, max-le}
use Rattle.std.proofs.lemmas.List.{map-append}
use Rattle.std.proofs.lemmas.Bool.Decides.{nat_tests}
use Rattle.std.proofs.lemmas.Int.{ints}
use Rattle.std.proofs.lemmas.List.Elements.{All-append, All-cons, All-filter, All-from_get_or, All-head, All-nil, All-tail, All-weaker, Contains-get_or}
use Rattle.std.specs.List.{All, filter, fold}
use Rattle.box_geo.specs.declared.atoms.Atom.{Atom}
use Rattle.box_geo.specs.declared.limits.TheConstants.{MAX_ATOMS, MAX_ID, MAX_KINDS}
use Rattle.box_geo.specs.declared.sim_box.Extent.{Extent}
use Rattle.box_geo.specs.declared.sim_box.Sides.{Sides}
use Rattle.box_geo.specs.Sides.{Holds, IsInside, IsSound as IsSoundSides}
use Rattle.box_geo.specs.Wrap.{holds as is_along}
use Rattle.command_words.specs.declared.lattice.Creation.{Creation}
use Rattle.command_words.specs.declared.lattice.CreationSites.{CreationSites}
use Rattle.command_words.specs.declared.lattice.CreationSites.TheVariants as sites
use Rattle.box_geo.specs.Ids.{Rises}
use Rattle.lattice_fill.proofs.PointLemmas.{all_inside}
use Rattle.lattice_fill.specs.Lattice.{dim_of}
use Rattle.lattice_fill.specs.Points.{is_inside, points_of}
use Rattle.meaning.specs.declared.code.Code.{Code}
use Rattle.meaning.specs.declared.code.Code.TheVariants as code
use Rattle.meaning.specs.declared.settings.Body.{Body}
use Rattle.meaning.specs.declared.settings.Settings.{Settings}
use Rattle.meaning.specs.declared.setup.LatticeChoice.{LatticeChoice}
use Rattle.meaning.specs.Lattice.{at_point, atom_at, atoms_at, atoms_with, greatest_id, in_region, is_above_kinds, made_at, not_many, on_lattice, places, single_point, spacing_of_choice, unset_masses}
use Rattle.meaning.specs.MassesGroups.{ids_of}
use Rattle.regions_groups.specs.Regions.{NamedRegion, holds}
use Rattle.meaning.specs.Sound.{IsOfSetup, IsSound, IsSoundAtom, IsSoundBody, IsSoundMass}

cond_where : {X : Type 0} (P : X → Type 0) (b : Bool) (x y : X) → P x → (b ≡ false → P y) → P (cond b x y)
cond_where P true x y h g = h
cond_where P false x y h g = g refl

cond_on : {X : Type 0} (P : X → Type 0) (b : Bool) (x y : X) → (b ≡ true → P x) → P y → P (cond b x y)
cond_on P true x y h g = h refl
cond_on P false x y h g = g

-- masses that are not set
masses_more : (kind kinds : ℕ) → kind < kinds → unset_masses (kinds - kind) ≡ pos 0 ∷ unset_masses (kinds - (kind + 1))
masses_more kind kinds below =
    let left : kinds - kind ≡ suc (kinds - (kind + 1)) = omega arith in
    ap unset_masses left

pub masses_step : (mass whole : List ℤ) (kind kinds : ℕ) → kind < kinds → mass ++ unset_masses (kinds - kind) ≡ whole → (mass ++ pos 0 ∷ []) ++ unset_masses (kinds - (kind + 1)) ≡ whole
masses_step mass whole kind kinds below is =
    append_assoc mass (pos 0 ∷ []) (unset_masses (kinds - (kind + 1))) ∙ ap (λ (rest : List ℤ). mass ++ rest) (sym (masses_more kind kinds below)) ∙ is

unset_sound : (kinds : ℕ) → All IsSoundMass (unset_masses kinds)
unset_sound zero = All-nil IsSoundMass
unset_sound (suc kinds) = All-cons IsSoundMass (pos 0) (unset_masses kinds) (inl refl) (unset_sound kinds)

length-unset_masses : (kinds : ℕ) → length (unset_masses kinds) ≡ kinds
length-unset_masses zero = refl
length-unset_masses (suc kinds) = ap (λ (n : ℕ). suc n) (length-unset_masses kinds)

-- ids that rise
rises_none : Rises []
rises_none i j h w = absurd (omega arith)

rises_cons : (id : ℕ) (ids : List ℕ) → All (λ y. id < y) ids → Rises ids → Rises (id ∷ ids)
rises_cons id ids above all i zero h w = absurd (omega arith)
rises_cons id ids above all zero (suc j) h w = above j 0 (omega arith)
rises_cons id ids above all (suc i) (suc j) h w = all i j (omega arith) (omega arith)

rises_above : (id : ℕ) (ids : List ℕ) → Rises (id ∷ ids) → All (λ y. id < y) ids
rises_above id ids all = All-from_get_or (λ y. id < y) ids 0 (λ i w. all 0 (suc i) (omega arith) (omega arith))

rises_tail : (id : ℕ) (ids : List ℕ) → Rises (id ∷ ids) → Rises ids
rises_tail id ids all i j h w = all (suc i) (suc j) (omega arith) (omega arith)

rises_append : (ids new : List ℕ) (bound : ℕ) → Rises ids → All (λ y. y ≤ bound) ids → Rises new → All (λ y. bound < y) new → Rises (ids ++ new)
rises_append [] new bound r a rn an = rn
rises_append (id ∷ ids) new bound r a rn an =
    let low : id ≤ bound = All-head (λ y. y ≤ bound) id ids a in
    let above : All (λ y. id < y) new = All-weaker (λ y. bound < y) (λ y. id < y) (λ y h. omega arith) new an in
    rises_cons id (ids ++ new) (All-append (λ y. id < y) ids new (rises_above id ids r) above)
    (rises_append ids new bound (rises_tail id ids r) (All-tail (λ y. y ≤ bound) id ids a) rn an)

new_above : (kind id bound : ℕ) (points : List (List ℤ)) → bound < id → All (λ y. bound < y) (ids_of (atoms_at kind id points))
new_above kind id bound [] h = All-nil (λ y. bound < y)
new_above kind id bound (x ∷ points) h =
    All-cons (λ y. bound < y) id (ids_of (atoms_at kind (id + 1) points)) h (new_above kind (id + 1) bound points (omega arith))

new_rise : (kind id : ℕ) (points : List (List ℤ)) → Rises (ids_of (atoms_at kind id points))
new_rise kind id [] = rises_none
new_rise kind id (x ∷ points) =
    rises_cons id (ids_of (atoms_at kind (id + 1) points)) (new_above kind (id + 1) id points (omega arith)) (new_rise kind (id + 1) points)

length-atoms_at : (kind id : ℕ) (points : List (List ℤ)) → length (atoms_at kind id points) ≡ length points
length-atoms_at kind id [] = refl
length-atoms_at kind id (x ∷ points) = ap (λ (n : ℕ). suc n) (length-atoms_at kind (id + 1) points)

-- the greatest id
abbrev most_of : ℕ → List Atom → ℕ
most_of most atoms = fold (λ most (a : Atom). max most a.id) most atoms

most_grows : (most : ℕ) (atoms : List Atom) → most ≤ most_of most atoms
most_grows most [] = omega arith
most_grows most (a ∷ atoms) =
    let h : max most a.id ≤ most_of (max most a.id) atoms = most_grows (max most a.id) atoms in
    let g : most ≤ max most a.id = le-max_left most a.id in
    omega arith

ids_below : (most : ℕ) (atoms : List Atom) → All (λ y. y ≤ most_of most atoms) (ids_of atoms)
ids_below most [] = All-nil (λ y. y ≤ most_of most [])
ids_below most (a ∷ atoms) =
    let h : max most a.id ≤ most_of (max most a.id) atoms = most_grows (max most a.id) atoms in
    let k : a.id ≤ max most a.id = le-max_right most a.id in
    let g : a.id ≤ most_of (max most a.id) atoms = omega arith in
    All-cons (λ y. y ≤ most_of (max most a.id) atoms) a.id (ids_of atoms) g (ids_below (max most a.id) atoms)

most_high : (s : Sides) (kinds most : ℕ) (atoms : List Atom) → most ≤ MAX_ID → All (IsSoundAtom s kinds) atoms → most_of most atoms ≤ MAX_ID
most_high s kinds most [] h all = h
most_high s kinds most (a ∷ atoms) h all =
    let k : a.id ≤ MAX_ID = (All-head (IsSoundAtom s kinds) a atoms all).id_high in
    most_high s kinds (max most a.id) atoms (max-le h k) (All-tail (IsSoundAtom s kinds) a atoms all)

pub greatest_high : (b : Body) → IsSoundBody b → greatest_id b.atoms ≤ MAX_ID
greatest_high b h = most_high b.sides (length b.mass) 0 b.atoms (omega arith) h.atoms

-- new atoms
new_sound : (s : Sides) (kinds kind id : ℕ) (points : List (List ℤ)) → 1 ≤ kind → kind ≤ kinds → 1 ≤ id → id + length points ≤ MAX_ID + 1 → All (IsInside s) points
    → All (IsSoundAtom s kinds) (atoms_at kind id points)
new_sound s kinds kind id [] low high from few inside = All-nil (IsSoundAtom s kinds)
new_sound s kinds kind id (x ∷ points) low high from few inside =
    let here : IsSoundAtom s kinds (atom_at kind id x) = record {
      inside = All-head (IsInside s) x points inside;
      kind_low = low;
      kind_high = high;
      id_low = from;
      id_high = omega arith;
      v = (omega arith, omega arith, omega arith);
      f = (omega arith, omega arith, omega arith);
      image = (omega arith, omega arith, omega arith);
    } in
    All-cons (IsSoundAtom s kinds) (atom_at kind id x) (atoms_at kind (id + 1) points) here
    (new_sound s kinds kind (id + 1) points low high (omega arith) (omega arith) (All-tail (IsInside s) x points inside))

few_tests : (atoms points most : ℕ) → (nat_lt MAX_ATOMS (atoms + points) || nat_lt MAX_ID (most + points)) ≡ false → (atoms + points ≤ MAX_ATOMS) × (most + points ≤ MAX_ID)
few_tests atoms points most e = (grind (arith, nat_tests), grind (arith, nat_tests))

abbrev IsSoundWith : Body → List Atom → Type 0
IsSoundWith b atoms = IsSoundBody (record b { atoms = atoms })

grown_sound : (b : Body) (kind : ℕ) (points : List (List ℤ)) → IsSoundBody b → 1 ≤ kind → kind ≤ length b.mass → All (IsInside b.sides) points
    → (length b.atoms + length points ≤ MAX_ATOMS) × (greatest_id b.atoms + length points ≤ MAX_ID) → IsSoundWith b (b.atoms ++ atoms_at kind (greatest_id b.atoms + 1) points)
grown_sound b kind points h low high inside few =
    let most = greatest_id b.atoms in
    let new = atoms_at kind (most + 1) points in
    let many : length (b.atoms ++ new) ≡ length b.atoms + length new = length-append b.atoms new in
    let same : length new ≡ length points = length-atoms_at kind (most + 1) points in
    let within : length b.atoms + length points ≤ MAX_ATOMS = few.0 in
    let ids : most + length points ≤ MAX_ID = few.1 in
    record {
      step = h.step;
      sides = h.sides;
      some = h.some;
      kinds = h.kinds;
      mass = h.mass;
      few = omega arith;
      atoms = All-append (IsSoundAtom b.sides (length b.mass)) b.atoms new h.atoms
          (new_sound b.sides (length b.mass) kind (most + 1) points low high (omega arith) (omega arith) inside);
      rising = subst (λ (l : List ℕ). Rises l) (sym (map-append (λ (a : Atom). a.id) b.atoms new))
          (rises_append (ids_of b.atoms) (ids_of new) most h.rising (ids_below 0 b.atoms) (new_rise kind (most + 1) points) (new_above kind (most + 1) most points (omega arith)));
      bonds = h.bonds;
      angles = h.angles;
    }

made_sound : (b : Body) (kind : ℕ) (r : Result (List (List ℤ)) Code) → IsSoundBody b → 1 ≤ kind → kind ≤ length b.mass → IfOk r (All (IsInside b.sides)) → IfOk (made_at b.atoms kind r) (IsSoundWith b)
made_sound b kind (Ok points) h low high inside =
    cond_where (λ (r : Result (List Atom) Code). IfOk r (IsSoundWith b)) _ _ _ tt
    (λ e. grown_sound b kind points h low high inside (few_tests (length b.atoms) (length points) (greatest_id b.atoms) e))
made_sound b kind (Err why) h low high inside = tt

-- where atoms are made is in the box
from_along : (e : Extent) (x : ℤ) → is_along e x ≡ true → Holds e x
from_along e x is = grind (arith, ints)

abbrev AllInside : Body → Result (List (List ℤ)) Code → Type 0
AllInside b r = IfOk r (All (IsInside b.sides))

filled_inside : (b : Body) (l : LatticeChoice) → All (IsInside b.sides) (points_of l.style (spacing_of_choice l) b.sides)
filled_inside b l =
    let points = points_of l.style (spacing_of_choice l) b.sides in
    λ k d w. all_inside l.style (spacing_of_choice l) b.sides (get_or points k d) (Contains-get_or points k d w)

on_lattice_inside : (s : Settings) (b : Body) (o : Option LatticeChoice) → AllInside b (on_lattice s b o)
on_lattice_inside s b None = tt
on_lattice_inside s b (Some l) =
    let own : AllInside b (not_many (points_of l.style (spacing_of_choice l) b.sides)) =
    cond_where (AllInside b) _ (Err code.TooMany) (Ok (points_of l.style (spacing_of_choice l) b.sides)) tt (λ e. filled_inside b l) in
    cond_on (AllInside b) _ (not_many (points_of l.style (spacing_of_choice l) b.sides)) (Err code.WrongStyle) (λ e. own) tt

in_region_inside : (b : Body) (regions : List NamedRegion) (name : List ℕ) (r : Result (List (List ℤ)) Code) → AllInside b r → AllInside b (in_region regions name r)
in_region_inside b regions name (Ok points) h = All-filter (holds regions name) (IsInside b.sides) points h
in_region_inside b regions name (Err why) h = tt

parts : (a b c : Bool) → (a && b && c) ≡ true → (a ≡ true) × (b ≡ true) × (c ≡ true)
parts true true true e = (refl, refl, refl)
parts true true false e = absurd cc
parts true false true e = absurd cc
parts true false false e = absurd cc
parts false b c e = absurd cc

point_inside : (s : Sides) (x : List ℤ) → is_inside s x ≡ true → IsInside s x
point_inside s x e = let h = parts _ _ _ e in (from_along s.x _ h.0, from_along s.y _ h.1, from_along s.z _ h.2)

at_point_inside : (b : Body) (x : List ℤ) → All (IsInside b.sides) (at_point b x)
at_point_inside b x =
    cond_on (All (IsInside b.sides)) _ (x ∷ []) [] (λ e. All-cons (IsInside b.sides) x [] (point_inside b.sides x e) (All-nil (IsInside b.sides))) (All-nil (IsInside b.sides))

places_inside : (s : Settings) (b : Body) (c : CreationSites) → AllInside b (places s b c)
places_inside s b sites.Box = on_lattice_inside s b s.setup.lattice
places_inside s b (sites.Region name) = in_region_inside b s.named.regions name (on_lattice s b s.setup.lattice) (on_lattice_inside s b s.setup.lattice)
places_inside s b (sites.Single p) = at_point_inside b (single_point s p)

created_sound : (s : Settings) (b : Body) (c : Creation) (atoms : List Atom) → IsSound s → s.body ≡ Some b → 1 ≤ c.kind → is_above_kinds c.kind s.body ≡ false
    → made_at b.atoms c.kind (places s b c.sites) ≡ Ok atoms → IsSound (record s { body = Some (record b { atoms = atoms }) })
created_sound s b c atoms h is low within made =
    let body : IsSoundBody b = subst (λ (o : Option Body). IfSome o IsSoundBody) is h.body in
    let dim : IsOfSetup s.setup b = subst (λ (o : Option Body). IfSome o (IsOfSetup s.setup)) is h.dim in
    let test : nat_lt (length b.mass) c.kind ≡ false = subst (λ (o : Option Body). is_above_kinds c.kind o ≡ false) is within in
    let high : c.kind ≤ length b.mass = grind (arith, nat_tests) in
    let sound : IsSoundWith b atoms = subst (λ (r : Result (List Atom) Code). IfOk r (IsSoundWith b)) made (made_sound b c.kind (places s b c.sites) body low high (places_inside s b c.sites)) in
    record { setup = h.setup; force = h.force; body = sound; dim = dim }

-- the same for a box that is read twice
pub created_again : (s : Settings) (first b : Body) (c : Creation) (atoms : List Atom) → IsSound s → s.body ≡ Some first → s.body ≡ Some b → 1 ≤ c.kind → is_above_kinds c.kind s.body ≡ false
    → made_at first.atoms c.kind (places s first c.sites) ≡ Ok atoms → IsSound (record s { body = Some (record b { atoms = atoms }) })
created_again s first b c atoms h before is low within made =
    let same : first ≡ b = ap (λ (o : Option Body). unwrap_or o first) (sym before ∙ is) in
    created_sound s b c atoms h is low within (subst (λ (d : Body). made_at d.atoms c.kind (places s d c.sites) ≡ Ok atoms) same made)

pub box_sound : (s : Settings) (b : Body) (kinds : ℕ) → IsSound s → b.step ≡ 0 → IsSoundSides b.sides → b.sides.dim ≡ s.setup.dim → b.mass ≡ unset_masses kinds
    → (1 ≤ kinds) × (kinds ≤ MAX_KINDS) → b.atoms ≡ [] → b.bonds ≡ [] → b.angles ≡ [] → IsSound (record s { body = Some b })
box_sound s b kinds h step sides dim mass range atoms bonds angles =
    let many : length b.mass ≡ kinds = ap (λ (m : List ℤ). length m) mass ∙ length-unset_masses kinds in
    let low : 1 ≤ kinds = range.0 in
    let high : kinds ≤ MAX_KINDS = range.1 in
    let none : length b.atoms ≡ 0 = ap (λ (l : List Atom). length l) atoms in
    let sound : IsSoundBody b = record {
      step = omega arith;
      sides = sides;
      some = omega arith;
      kinds = omega arith;
      mass = subst (λ (m : List ℤ). All IsSoundMass m) (sym mass) (unset_sound kinds);
      few = omega arith;
      atoms = subst (λ (l : List Atom). All (IsSoundAtom b.sides (length b.mass)) l) (sym atoms) (All-nil (IsSoundAtom b.sides (length b.mass)));
      rising = subst (λ (l : List Atom). Rises (ids_of l)) (sym atoms) rises_none;
      bonds = bonds;
      angles = angles;
    } in
    record { setup = h.setup; force = h.force; body = sound; dim = dim }

-- points that are not too many
few_are : (points : List (List ℤ)) → length points ≤ MAX_ATOMS → not_many points ≡ Ok points
few_are points few = grind (arith, nat_tests)

pub filled : (whole points : List (List ℤ)) → points ≡ whole → length points ≤ MAX_ATOMS → not_many whole ≡ Ok points
filled whole points is few = subst (λ (l : List (List ℤ)). not_many l ≡ Ok points) is (few_are points few)
