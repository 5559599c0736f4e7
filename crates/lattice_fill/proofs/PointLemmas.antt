-- The points of a lattice in a box are those of all its cells that are inside.
use Rattle.std.proofs.Common.{◌≡◌, ◌↔◌, IsTrue, ◌&&◌, ◌≤◌, rules, Bool, true, false, ℕ, ℤ, pos, List, length, get_or, ◌+◌, ◌<◌, ◌∙◌, flat_map, Contains, All, inl, inr, arith, ap, sym, refl, subst}
use Rattle.std.proofs.lemmas.Int.{ints}
use Rattle.std.proofs.lemmas.List.{get_or_default}
use Rattle.std.proofs.lemmas.List.Elements.{All-contains}
use Rattle.box_geo.specs.declared.sim_box.Extent.{Extent}
use Rattle.box_geo.specs.declared.sim_box.Sides.{Sides}
use Rattle.box_geo.specs.declared.styles.LatticeStyle.{LatticeStyle}
use Rattle.box_geo.specs.declared.styles.LatticeStyle.TheVariants.{Sc, Bcc, Fcc, Diamond, Sq, Sq2, Hex}
use Rattle.box_geo.specs.Sides.{Holds, IsInside}
use Rattle.box_geo.specs.Wrap.{holds}
use Rattle.lattice_fill.specs.declared.basis.Quarters.{Quarters}
use Rattle.lattice_fill.specs.declared.range.Cell.{Cell}
use Rattle.lattice_fill.specs.declared.spacing.Spacing.{Spacing}
use Rattle.lattice_fill.specs.Lattice.{AreQuarters, IsFair, IsFairAlong, basis_of, dim_of}
use Rattle.lattice_fill.specs.Points.{IsPoint, cells_along, coordinate, inside_of_cell, inside_of_layer, inside_of_row, is_inside, layers, point_of, points_of, points_of_cell}
use Rattle.lattice_fill.proofs.CellLemmas.{cell_has}
use Rattle.lattice_fill.proofs.PlaceLemmas.{IsIn, changed_from, changed_has, contains_from, is_in_from, joined_from, joined_has, kept_from, kept_has}

-- places of a basis are within a cell
basis_within : (l : LatticeStyle) → All AreQuarters (basis_of l)
basis_within Sc = search rules
basis_within Bcc = search rules
basis_within Fcc = search rules
basis_within Diamond = search rules
basis_within Sq = search rules
basis_within Sq2 = search rules
basis_within Hex = search rules

pub place_within : (l : LatticeStyle) (q : Quarters) → Contains (basis_of l) q → AreQuarters q
place_within l q place = All-contains AreQuarters (basis_of l) q (basis_within l) place

-- the test of a position
holds_from : (e : Extent) (x : ℤ) → Holds e x → holds e x ≡ true
holds_from e x inside = grind (arith, ints, inside.0, inside.1)

from_holds : (e : Extent) (x : ℤ) → holds e x ≡ true → Holds e x
from_holds e x is = grind (arith, ints)

both : (a b c : Bool) → a ≡ true → b ≡ true → c ≡ true → (a && b && c) ≡ true
both a b c e f g = grind arith

parts : (a b c : Bool) → (a && b && c) ≡ true → (a ≡ true) × (b ≡ true) × (c ≡ true)
parts true true true e = (refl, refl, refl)
parts true true false e = cc
parts true false true e = cc
parts true false false e = cc
parts false b c e = cc

-- a test of a point that is exact answers the test of the definition
by_test : (b : Sides) (p : List ℤ) (t : Bool) → (IsTrue t → IsInside b p) → (IsInside b p → IsTrue t) → t ≡ is_inside b p
by_test b p true to back = let h = to refl in sym (both _ _ _ (holds_from b.x _ h.0) (holds_from b.y _ h.1) (holds_from b.z _ h.2))
by_test b p false to back = not_inside (is_inside b p) refl
  where
    not_inside : (t : Bool) → t ≡ is_inside b p → false ≡ t
    not_inside false is = refl
    not_inside true is = let h = parts _ _ _ (sym is) in back (from_holds b.x _ h.0, from_holds b.y _ h.1, from_holds b.z _ h.2)

pub inside_by : (b : Sides) (p : List ℤ) (t : Bool) → (IsTrue t ↔ IsInside b p) → t ≡ is_inside b p
inside_by b p t exact = by_test b p t exact.0 exact.1

-- layers: all, or in two dimensions that of the origin
layer_has : (l : LatticeStyle) (b : Sides) (k : ℤ) (q s : ℕ) → IsFairAlong s → q ≤ 3 → (dim_of l ≡ 2 → k ≡ pos 0) → Holds b.z (coordinate s k q) → IsIn k (layers l b s)
layer_has Sc b k q s fair few flat inside = cell_has b.z k q s fair few inside
layer_has Bcc b k q s fair few flat inside = cell_has b.z k q s fair few inside
layer_has Fcc b k q s fair few flat inside = cell_has b.z k q s fair few inside
layer_has Diamond b k q s fair few flat inside = cell_has b.z k q s fair few inside
layer_has Sq b k q s fair few flat inside = inl (sym (flat refl))
layer_has Sq2 b k q s fair few flat inside = inl (sym (flat refl))
layer_has Hex b k q s fair few flat inside = inl (sym (flat refl))

layer_flat : (l : LatticeStyle) (b : Sides) (k : ℤ) (s : ℕ) → IsIn k (layers l b s) → dim_of l ≡ 2 → k ≡ pos 0
layer_flat Sc b k s h two = absurd (omega (arith, two))
layer_flat Bcc b k s h two = absurd (omega (arith, two))
layer_flat Fcc b k s h two = absurd (omega (arith, two))
layer_flat Diamond b k s h two = absurd (omega (arith, two))
layer_flat Sq b k s (inl is) two = sym is
layer_flat Sq b k s (inr rest) two = absurd rest
layer_flat Sq2 b k s (inl is) two = sym is
layer_flat Sq2 b k s (inr rest) two = absurd rest
layer_flat Hex b k s (inl is) two = sym is
layer_flat Hex b k s (inr rest) two = absurd rest

-- the points by the layers that are gone through
pub points_made : (l : LatticeStyle) (s : Spacing) (b : Sides) (ks : List ℤ) → ks ≡ layers l b s.z → (points : List (List ℤ)) → points ≡ flat_map (inside_of_layer l s b) ks → points ≡ points_of l s b
unfolding points_of
points_made l s b ks is points made = made ∙ ap (flat_map (inside_of_layer l s b)) is

pub points_from : (l : LatticeStyle) (s : Spacing) (b : Sides) (ks : List ℤ) → ks ≡ layers l b s.z → (limit : ℕ) → limit < 0 + length (flat_map (inside_of_layer l s b) ks) → limit < length (points_of l s b)
points_from l s b ks is limit over = omega (arith, over, ap length (points_made l s b ks is (flat_map (inside_of_layer l s b) ks) refl))

-- none is missed
point_has : (l : LatticeStyle) (s : Spacing) (b : Sides) (c : Cell) (q : Quarters) → IsFair s → Contains (basis_of l) q → (dim_of l ≡ 2 → c.z ≡ pos 0)
    → IsInside b (point_of s c q) → IsIn (point_of s c q) (points_of l s b)
unfolding points_of
point_has l s b c q fair place flat inside =
    let few = place_within l q place in
    let test : is_inside b (point_of s c q) ≡ true = both _ _ _ (holds_from b.x _ inside.0) (holds_from b.y _ inside.1) (holds_from b.z _ inside.2) in
    let here : IsIn (point_of s c q) (inside_of_cell l s b c.z c.y c.x) = kept_has (is_inside b) (points_of_cell l s c) (point_of s c q) test (changed_has (point_of s c) (basis_of l) q (is_in_from (basis_of l) q place)) in
    let in_row : IsIn (point_of s c q) (inside_of_row l s b c.z c.y) = joined_has (inside_of_cell l s b c.z c.y) (cells_along b.x s.x) c.x (point_of s c q) (cell_has b.x c.x q.x s.x fair.0 few.0 inside.0) here in
    let in_layer : IsIn (point_of s c q) (inside_of_layer l s b c.z) = joined_has (inside_of_row l s b c.z) (cells_along b.y s.y) c.y (point_of s c q) (cell_has b.y c.y q.y s.y fair.1 few.1 inside.1) in_row in
    joined_has (inside_of_layer l s b) (layers l b s.z) c.z (point_of s c q) (layer_has l b c.z q.z s.z fair.2 few.2 flat inside.2) in_layer

pub none_missed : (l : LatticeStyle) (s : Spacing) (b : Sides) (p : List ℤ) (c : Cell) (q : Quarters) → IsFair s → IsPoint l s p c q → IsInside b p → Contains (points_of l s b) p
none_missed l s b p c q fair point inside =
    let here : IsInside b (point_of s c q) = subst (IsInside b) point.is inside in
    contains_from (points_of l s b) p (subst (λ r. IsIn r (points_of l s b)) (sym point.is) (point_has l s b c q fair point.place point.flat here))

-- and there are no others
abbrev Found : LatticeStyle → Spacing → Sides → List ℤ → Type 0
Found l s b p = IsInside b p × ((c : Cell) × (q : Quarters) × IsPoint l s p c q)

point_from : (l : LatticeStyle) (s : Spacing) (b : Sides) (p : List ℤ) → IsIn p (points_of l s b) → Found l s b p
unfolding points_of
point_from l s b p h =
    let in_layer = joined_from (inside_of_layer l s b) (layers l b s.z) p h in
    let k = in_layer.0 in
    let in_row = joined_from (inside_of_row l s b k) (cells_along b.y s.y) p in_layer.2 in
    let j = in_row.0 in
    let in_cell = joined_from (inside_of_cell l s b k j) (cells_along b.x s.x) p in_row.2 in
    let cell : Cell = record { x = in_cell.0; y = j; z = k } in
    let kept = kept_from (is_inside b) (points_of_cell l s cell) p in_cell.2 in
    let made = changed_from (point_of s cell) (basis_of l) p kept.0 in
    let tests = parts _ _ _ kept.1 in (
      (from_holds b.x _ tests.0, from_holds b.y _ tests.1, from_holds b.z _ tests.2),
      (cell, made.0, record { is = sym made.2; place = contains_from (basis_of l) made.0 made.1; flat = layer_flat l b k s.z in_layer.1 }),
    )

pub all_inside : (l : LatticeStyle) (s : Spacing) (b : Sides) (p : List ℤ) → Contains (points_of l s b) p → IsInside b p
all_inside l s b p has = (point_from l s b p (is_in_from (points_of l s b) p has)).0

pub each_inside : (l : LatticeStyle) (s : Spacing) (b : Sides) → All (IsInside b) (points_of l s b)
each_inside l s b i d lt = all_inside l s b (get_or (points_of l s b) i d) (i, lt, get_or_default (points_of l s b) i (get_or (points_of l s b) i d) d lt)

pub all_points : (l : LatticeStyle) (s : Spacing) (b : Sides) (p : List ℤ) → Contains (points_of l s b) p → (c : Cell) × (q : Quarters) × IsPoint l s p c q
all_points l s b p has = (point_from l s b p (is_in_from (points_of l s b) p has)).1
