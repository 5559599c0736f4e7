-- Where a group stands, and how ids that are added change the table.
use Rattle.std.proofs.Common.{◌≡◌, ◌∙◌, ◌+◌, ◌-◌, ◌<◌, ◌≤◌, ℕ, zero, suc, Bool, true, false, cond, List, [], ◌∷◌, ◌++◌, Some, None, length, get_or, set, length-set, refl, ap, subst, sym, arith}
use Rattle.std.proofs.lemmas.List.Elements.{All-set}
use Rattle.regions_groups.specs.declared.group_table.NamedGroup.{NamedGroup}
use Rattle.regions_groups.specs.Groups.{added, is_named, is_there, place_from, AllRise}
use Rattle.box_geo.specs.Ids.{Rises}
use Rattle.regions_groups.specs.Ids.{union_of}
use Rattle.regions_groups.proofs.OrderLemmas.{rises_merged}

-- the place of a name, where it stands
pub record Placed (groups : List NamedGroup) (name : List ℕ) (i k : ℕ) : Type 0 where
  pub from : i ≤ k
  pub within : k < i + length groups
  pub there : is_there groups name ≡ true
  pub adds : (ids : List ℕ) (g : NamedGroup) → g ≡ get_or groups (k - i) g → added groups name ids ≡ set groups (k - i) record { name = g.name; ids = union_of g.ids ids }

placed_by : (b : Bool) (g : NamedGroup) (groups : List NamedGroup) (name : List ℕ) (i k : ℕ)
    → is_named name g ≡ b → (place_from (i + 1) groups name ≡ Some k → Placed groups name (i + 1) k) → cond b (Some i) (place_from (i + 1) groups name) ≡ Some k
    → Placed (g ∷ groups) name i k
placed_by true g groups name i k is rest e =
    let same : i ≡ k = cc in
    let at : k - i ≡ 0 = omega arith in
    record {
      from = omega arith;
      within = omega arith;
      there = rw is refl;
      adds = λ ids h e. rw (is, at) (let h_is : h ≡ g = (rw at at e) in rw h_is refl);
    }
placed_by false g groups name i k is rest e =
    let p : Placed groups name (i + 1) k = rest e in
    let at : k - i ≡ suc (k - (i + 1)) = omega (arith, p.from) in
    record {
      from = omega (arith, p.from);
      within = omega (arith, p.within);
      there = rw is p.there;
      adds = λ ids h e. rw (is, at) (ap (λ t. g ∷ t) (p.adds ids h (rw at at e)));
    }

pub placed : (groups : List NamedGroup) (name : List ℕ) (i k : ℕ) → place_from i groups name ≡ Some k → Placed groups name i k
placed [] name i k e = cc
placed (g ∷ groups) name i k e = placed_by (is_named name g) g groups name i k refl (placed groups name (i + 1) k) e

-- a name that stands nowhere
pub record Absent (groups : List NamedGroup) (name : List ℕ) : Type 0 where
  pub absent : is_there groups name ≡ false
  pub adds : (ids : List ℕ) → added groups name ids ≡ groups ++ record { name = name; ids = ids } ∷ []

absent_by : (b : Bool) (g : NamedGroup) (groups : List NamedGroup) (name : List ℕ) (i : ℕ)
    → is_named name g ≡ b → (place_from (i + 1) groups name ≡ None → Absent groups name) → cond b (Some i) (place_from (i + 1) groups name) ≡ None
    → Absent (g ∷ groups) name
absent_by true g groups name i is rest e = cc
absent_by false g groups name i is rest e =
    let p : Absent groups name = rest e in
    record { absent = rw is p.absent; adds = λ ids. rw is (ap (λ t. g ∷ t) (p.adds ids)) }

pub absent : (groups : List NamedGroup) (name : List ℕ) (i : ℕ) → place_from i groups name ≡ None → Absent groups name
absent [] name i e = record { absent = refl; adds = λ ids. refl }
absent (g ∷ groups) name i e = absent_by (is_named name g) g groups name i refl (absent groups name (i + 1)) e

-- ids that rise, added to a group, leave the ids of each group rising
pub rise_added : (groups : List NamedGroup) (k : ℕ) (g : NamedGroup) (ids : List ℕ) → k < length groups → g ≡ get_or groups k g → AllRise groups → Rises ids
    → AllRise (set groups k record { name = g.name; ids = union_of g.ids ids })
rise_added groups k g ids within at all rises =
    let here : Rises (get_or groups k g).ids = all k g within in
    let own : Rises g.ids = subst (λ (h : NamedGroup). Rises h.ids) (sym at) here in
    All-set (λ (h : NamedGroup). Rises h.ids) groups k record { name = g.name; ids = union_of g.ids ids } (rises_merged true true true g.ids ids own rises) all

-- an element is the same whatever stands for one past the end
pub same_at : (groups : List NamedGroup) (k : ℕ) (g h : NamedGroup) → k < length groups → g ≡ get_or groups k g → h ≡ get_or groups k h → g ≡ h
same_at [] k g h within one two = absurd (omega arith)
same_at (f ∷ groups) zero g h within one two = one ∙ sym two
same_at (f ∷ groups) (suc k) g h within one two = same_at groups k g h (omega arith) one two

-- what a write of united ids leaves
pub record United (groups : List NamedGroup) (name ids united : List ℕ) (k : ℕ) (g : NamedGroup) : Type 0 where
  pub adds : set groups k record { name = g.name; ids = united } ≡ added groups name ids
  pub rise : AllRise (set groups k record { name = g.name; ids = united })
  pub count : length (set groups k record { name = g.name; ids = united }) ≡ length groups

pub united_at : (groups : List NamedGroup) (name ids united : List ℕ) (k : ℕ) (g h : NamedGroup)
    → place_from 0 groups name ≡ Some k → g ≡ get_or groups k g → h ≡ get_or groups k h → united ≡ union_of h.ids ids
    → AllRise groups → Rises ids → United groups name ids united k g
united_at groups name ids united k g h place first second is all rises =
    let p : Placed groups name 0 k = placed groups name 0 k place in
    let within : k < length groups = omega (arith, p.within) in
    let same : g ≡ h = same_at groups k g h within first second in
    let of_g : united ≡ union_of g.ids ids = is ∙ ap (λ (f : NamedGroup). union_of f.ids ids) (sym same) in
    let at : k - 0 ≡ k = omega arith in
    let puts : added groups name ids ≡ set groups k record { name = g.name; ids = union_of g.ids ids } = rw at at (p.adds ids g (rw at first)) in
    let written : set groups k record { name = g.name; ids = united } ≡ set groups k record { name = g.name; ids = union_of g.ids ids } =
    ap (λ (u : List ℕ). set groups k record { name = g.name; ids = u }) of_g in
    record {
      adds = written ∙ sym puts;
      rise = subst AllRise (sym written) (rise_added groups k g ids within first all rises);
      count = length-set groups k record { name = g.name; ids = united };
    }
