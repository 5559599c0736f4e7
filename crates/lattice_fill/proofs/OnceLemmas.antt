-- Each point of a lattice in a box is made once.
use Rattle.std.proofs.Common.{◌≡◌, ◌≢◌, ◌∙◌, ◌==◌, ◌&&◌, cond, ◌+◌, ◌*◌, ◌<◌, ◌≤◌, not, Bool, true, false, ℕ, zero, suc, ℤ, pos, ◌+ℤ◌, ◌-ℤ◌, ◌*ℤ◌, ◌<ℤ◌, ◌≤ℤ◌, unsigned_abs, List, [], ◌∷◌, ◌++◌, map, flat_map, filter, ⊎_elim, inl, inr, arith, ap, sym, refl, subst}
use Rattle.std.specs.List.{All, AllPairs, list_any}
use Rattle.std.proofs.lemmas.Int.{ints}
use Rattle.std.proofs.lemmas.List.Elements.{All-cons, All-nil}
use Rattle.std.proofs.lemmas.List.Kept.{AllPairs-cons}
use Rattle.box_geo.specs.declared.sim_box.Sides.{Sides}
use Rattle.box_geo.specs.declared.styles.LatticeStyle.{LatticeStyle}
use Rattle.box_geo.specs.declared.styles.LatticeStyle.TheVariants.{Sc, Bcc, Fcc, Diamond, Sq, Sq2, Hex}
use Rattle.box_geo.specs.Sides.{x_of, y_of, z_of}
use Rattle.lattice_fill.specs.declared.basis.Quarters.{Quarters}
use Rattle.lattice_fill.specs.declared.range.Cell.{Cell}
use Rattle.lattice_fill.specs.declared.spacing.Spacing.{Spacing}
use Rattle.lattice_fill.specs.Lattice.{AreQuarters, IsFair, IsFairAlong, at, basis_of}
use Rattle.lattice_fill.specs.Points.{cells_along, coordinate, from, inside_of_cell, inside_of_layer, inside_of_row, is_inside, layers, point_of, points_of, points_of_cell}
use Rattle.lattice_fill.proofs.CellLemmas.{either, plus_times, quarter_near}
use Rattle.lattice_fill.proofs.PlaceLemmas.{IsIn, changed_from, changed_has, contains_from, is_in_either, joined_from, kept_from}
use Rattle.lattice_fill.proofs.PointLemmas.{place_within}

-- no element stands twice
abbrev pub AreApart : {X : Type 0} → List X → Type 0
AreApart [] = Unit {0}
AreApart (x ∷ xs) = (IsIn x xs → ⊥) × AreApart xs

all_differ : {X : Type 0} (x : X) (ys : List X) → (IsIn x ys → ⊥) → All (λ y. x ≢ y) ys
all_differ x [] none = All-nil (λ y. x ≢ y)
all_differ x (y ∷ ys) none = All-cons (λ z. x ≢ z) y ys (λ same. none (inl (sym same))) (all_differ x ys (λ h. none (inr h)))

pub pairs_differ : {X : Type 0} (xs : List X) → AreApart xs → AllPairs (λ x y. x ≢ y) xs
pairs_differ [] h = λ i j d less high. absurd (omega (arith, less, high))
pairs_differ (x ∷ xs) h = AllPairs-cons (λ y z. y ≢ z) x xs (all_differ x xs h.0) (pairs_differ xs h.1)

-- parts joined, left out, changed
apart_append : {X : Type 0} (xs ys : List X) → AreApart xs → AreApart ys → ((x : X) → IsIn x xs → IsIn x ys → ⊥) → AreApart (xs ++ ys)
apart_append [] ys a b none = b
apart_append (x ∷ xs) ys a b none =
    (λ h. ⊎_elim a.0 (λ i. none x (inl refl) i) (is_in_either xs ys x h), apart_append xs ys a.1 b (λ z i j. none z (inr i) j))

apart_joined : {X Y : Type 0} (f : X → List Y) (xs : List X) → AreApart xs → ((x : X) → AreApart (f x)) → ((x z : X) (y : Y) → IsIn y (f x) → IsIn y (f z) → x ≡ z) → AreApart (flat_map f xs)
apart_joined f [] a each key = tt
apart_joined f (x ∷ xs) a each key =
    apart_append (f x) (flat_map f xs) (each x) (apart_joined f xs a.1 each key)
    (λ y i j. let found = joined_from f xs y j in a.0 (subst (λ z. IsIn z xs) (sym (key x found.0 y i found.2)) found.1))

apart_by : {X : Type 0} (test : X → Bool) (x : X) (xs : List X) (b : Bool) → (IsIn x xs → ⊥) → AreApart (filter test xs) → AreApart (cond b (x ∷ filter test xs) (filter test xs))
apart_by test x xs true none a = (λ h. none (kept_from test xs x h).0, a)
apart_by test x xs false none a = a

apart_kept : {X : Type 0} (test : X → Bool) (xs : List X) → AreApart xs → AreApart (filter test xs)
apart_kept test [] a = tt
apart_kept test (x ∷ xs) a = apart_by test x xs (test x) a.0 (apart_kept test xs a.1)

apart_changed : {X Y : Type 0} (f : X → Y) (xs : List X) → AreApart xs → ((x z : X) → IsIn x xs → IsIn z xs → f x ≡ f z → x ≡ z) → AreApart (map f xs)
apart_changed f [] a key = tt
apart_changed f (x ∷ xs) a key =
    (λ h. let found = changed_from f xs (f x) h in a.0 (subst (λ z. IsIn z xs) (key found.0 x (inr found.1) (inl refl) found.2) found.1), apart_changed f xs a.1 (λ y z i j e. key y z (inr i) (inr j) e))

apart_unchanged : {X Y : Type 0} (f : X → Y) (xs : List X) → AreApart (map f xs) → AreApart xs
apart_unchanged f [] a = tt
apart_unchanged f (x ∷ xs) a = (λ h. a.0 (changed_has f xs x h), apart_unchanged f xs a.1)

-- the cells that are gone through
from_low : (count : ℕ) (first i : ℤ) → IsIn i (from first count) → first ≤ℤ i
from_low zero first i h = absurd h
from_low (suc n) first i (inl is) = omega (arith, ints, is)
from_low (suc n) first i (inr rest) = let low = from_low n (first +ℤ pos 1) i rest in omega (arith, ints, low)

apart_from : (count : ℕ) (first : ℤ) → AreApart (from first count)
apart_from zero first = tt
apart_from (suc n) first = (λ h. let low = from_low n (first +ℤ pos 1) first h in absurd (omega (arith, ints, low)), apart_from n (first +ℤ pos 1))

apart_layers : (l : LatticeStyle) (b : Sides) (s : ℕ) → AreApart (layers l b s)
apart_layers Sc b s = apart_from _ _
apart_layers Bcc b s = apart_from _ _
apart_layers Fcc b s = apart_from _ _
apart_layers Diamond b s = apart_from _ _
apart_layers Sq b s = (λ h. h, tt)
apart_layers Sq2 b s = (λ h. h, tt)
apart_layers Hex b s = (λ h. h, tt)

-- the places of a basis
abbrev code_of : Quarters → ℕ
code_of q = q.x + 4 * q.y + 16 * q.z

abbrev are_apart : List ℕ → Bool
are_apart [] = true
are_apart (n ∷ ns) = not (list_any (λ m. m == n) ns) && are_apart ns

found_in : (n : ℕ) (ns : List ℕ) → IsIn n ns → list_any (λ m. m == n) ns ≡ true
found_in n [] h = absurd h
found_in n (m ∷ ns) (inl is) = grind (arith, is)
found_in n (m ∷ ns) (inr rest) = let h = found_in n ns rest in grind (arith, h)

both_true : (a b : Bool) → (not a && b) ≡ true → (a ≡ false) × (b ≡ true)
both_true true b e = cc
both_true false true e = (refl, refl)
both_true false false e = cc

apart_from_test : (ns : List ℕ) → are_apart ns ≡ true → AreApart ns
apart_from_test [] e = tt
apart_from_test (n ∷ ns) e =
    let h = both_true (list_any (λ m. m == n) ns) (are_apart ns) e in
    (λ i. let wrong : true ≡ false = sym (found_in n ns i) ∙ h.0 in cc, apart_from_test ns h.1)

apart_basis : (l : LatticeStyle) → AreApart (basis_of l)
apart_basis Sc = apart_unchanged code_of (basis_of Sc) (apart_from_test (map code_of (basis_of Sc)) refl)
apart_basis Bcc = apart_unchanged code_of (basis_of Bcc) (apart_from_test (map code_of (basis_of Bcc)) refl)
apart_basis Fcc = apart_unchanged code_of (basis_of Fcc) (apart_from_test (map code_of (basis_of Fcc)) refl)
apart_basis Diamond = apart_unchanged code_of (basis_of Diamond) (apart_from_test (map code_of (basis_of Diamond)) refl)
apart_basis Sq = apart_unchanged code_of (basis_of Sq) (apart_from_test (map code_of (basis_of Sq)) refl)
apart_basis Sq2 = apart_unchanged code_of (basis_of Sq2) (apart_from_test (map code_of (basis_of Sq2)) refl)
apart_basis Hex = apart_unchanged code_of (basis_of Hex) (apart_from_test (map code_of (basis_of Hex)) refl)

-- places of equal coordinates are one
not_less : (n m : ℤ) (s : ℕ) (x : ℤ) → 4 < s → 2 * unsigned_abs (n *ℤ pos s -ℤ x *ℤ pos 4) ≤ 4 → 2 * unsigned_abs (m *ℤ pos s -ℤ x *ℤ pos 4) ≤ 4 → n <ℤ m → ⊥
not_less n m s x some first second less =
    let d : ℕ = unsigned_abs (m -ℤ n -ℤ pos 1) in
    let above : m ≡ n +ℤ pos (d + 1) = omega (arith, ints, less) in
    let far : m *ℤ pos s ≡ n *ℤ pos s +ℤ pos ((d + 1) * s) = ap (λ (z : ℤ). z *ℤ pos s) above ∙ plus_times n (d + 1) s in
    let long : s ≤ (d + 1) * s = omega arith in
    absurd (omega (arith, ints, far, long, first, second, some))

same_quarters : (n m : ℤ) (s : ℕ) (x : ℤ) → 4 < s → 2 * unsigned_abs (n *ℤ pos s -ℤ x *ℤ pos 4) ≤ 4 → 2 * unsigned_abs (m *ℤ pos s -ℤ x *ℤ pos 4) ≤ 4 → n ≡ m
same_quarters n m s x some first second =
    ⊎_elim (λ (less : n <ℤ m). absurd (not_less n m s x some first second less))
    (λ (le : m ≤ℤ n). ⊎_elim (λ (more : m <ℤ n). absurd (not_less m n s x some second first more)) (λ (ge : n ≤ℤ m). omega (arith, ints, le, ge)) (either n m)) (either m n)

same_place : (i j : ℤ) (q r : ℕ) → q ≤ 3 → r ≤ 3 → pos 4 *ℤ i +ℤ pos q ≡ pos 4 *ℤ j +ℤ pos r → (i ≡ j) × (q ≡ r)
same_place i j q r few little e = (omega (arith, ints, e, few, little), omega (arith, ints, e, few, little))

along : (s : ℕ) (i j : ℤ) (q r : ℕ) → IsFairAlong s → q ≤ 3 → r ≤ 3 → coordinate s i q ≡ coordinate s j r → (i ≡ j) × (q ≡ r)
unfolding coordinate
along s i j q r fair few little e =
    let n : ℤ = pos 4 *ℤ i +ℤ pos q in
    let m : ℤ = pos 4 *ℤ j +ℤ pos r in
    let x : ℤ = coordinate s j r in
    let first : 2 * unsigned_abs (n *ℤ pos s -ℤ x *ℤ pos 4) ≤ 4 = subst (λ (z : ℤ). 2 * unsigned_abs (n *ℤ pos s -ℤ z *ℤ pos 4) ≤ 4) e (quarter_near (n *ℤ pos s)) in
    same_place i j q r few little (same_quarters n m s x (omega (arith, fair.0)) first (quarter_near (m *ℤ pos s)))

same_point : (s : Spacing) (c d : Cell) (q r : Quarters) → IsFair s → AreQuarters q → AreQuarters r → point_of s c q ≡ point_of s d r
    → ((c.x ≡ d.x) × (q.x ≡ r.x)) × ((c.y ≡ d.y) × (q.y ≡ r.y)) × ((c.z ≡ d.z) × (q.z ≡ r.z))
same_point s c d q r fair few little e = (
  along s.x c.x d.x q.x r.x fair.0 few.0 little.0 (ap x_of e),
  along s.y c.y d.y q.y r.y fair.1 few.1 little.1 (ap y_of e),
  along s.z c.z d.z q.z r.z fair.2 few.2 little.2 (ap z_of e),
)

-- where a point of a part comes from
abbrev Comes : LatticeStyle → Spacing → Cell → List ℤ → Type 0
Comes l s c p = (q : Quarters) × AreQuarters q × (point_of s c q ≡ p)

in_cell : (l : LatticeStyle) (s : Spacing) (b : Sides) (k j i : ℤ) (p : List ℤ) → IsIn p (inside_of_cell l s b k j i) → Comes l s record { x = i; y = j; z = k } p
in_cell l s b k j i p h =
    let c : Cell = record { x = i; y = j; z = k } in
    let made = changed_from (point_of s c) (basis_of l) p (kept_from (is_inside b) (points_of_cell l s c) p h).0 in
    (made.0, place_within l made.0 (contains_from (basis_of l) made.0 made.1), made.2)

in_row : (l : LatticeStyle) (s : Spacing) (b : Sides) (k j : ℤ) (p : List ℤ) → IsIn p (inside_of_row l s b k j) → (i : ℤ) × Comes l s record { x = i; y = j; z = k } p
in_row l s b k j p h = let found = joined_from (inside_of_cell l s b k j) (cells_along b.x s.x) p h in (found.0, in_cell l s b k j found.0 p found.2)

in_layer : (l : LatticeStyle) (s : Spacing) (b : Sides) (k : ℤ) (p : List ℤ) → IsIn p (inside_of_layer l s b k) → (j i : ℤ) × Comes l s record { x = i; y = j; z = k } p
in_layer l s b k p h = let found = joined_from (inside_of_row l s b k) (cells_along b.y s.y) p h in let row = in_row l s b k found.0 p found.2 in (found.0, row.0, row.1)

same_quarter : (q r : Quarters) → q.x ≡ r.x → q.y ≡ r.y → q.z ≡ r.z → q ≡ r
same_quarter q r e f g =
    ap (λ (n : ℕ). at n q.y q.z) e ∙ ap (λ (n : ℕ). at r.x n q.z) f ∙ ap (λ (n : ℕ). at r.x r.y n) g

-- each point once
cell_once : (l : LatticeStyle) (s : Spacing) (b : Sides) (k j i : ℤ) → IsFair s → AreApart (inside_of_cell l s b k j i)
cell_once l s b k j i fair =
    let c : Cell = record { x = i; y = j; z = k } in
    apart_kept (is_inside b) (points_of_cell l s c) (apart_changed (point_of s c) (basis_of l) (apart_basis l)
    (λ q r here there e. let h = same_point s c c q r fair (place_within l q (contains_from (basis_of l) q here)) (place_within l r (contains_from (basis_of l) r there)) e in
    same_quarter q r h.0.1 h.1.1 h.2.1))

row_once : (l : LatticeStyle) (s : Spacing) (b : Sides) (k j : ℤ) → IsFair s → AreApart (inside_of_row l s b k j)
row_once l s b k j fair =
    apart_joined (inside_of_cell l s b k j) (cells_along b.x s.x) (apart_from _ _) (λ i. cell_once l s b k j i fair)
    (λ i n p here there. let f = in_cell l s b k j i p here in let g = in_cell l s b k j n p there in
    (same_point s record { x = i; y = j; z = k } record { x = n; y = j; z = k } f.0 g.0 fair f.1 g.1 (f.2 ∙ sym g.2)).0.0)

layer_once : (l : LatticeStyle) (s : Spacing) (b : Sides) (k : ℤ) → IsFair s → AreApart (inside_of_layer l s b k)
layer_once l s b k fair =
    apart_joined (inside_of_row l s b k) (cells_along b.y s.y) (apart_from _ _) (λ j. row_once l s b k j fair)
    (λ j n p here there. let f = in_row l s b k j p here in let g = in_row l s b k n p there in
    (same_point s record { x = f.0; y = j; z = k } record { x = g.0; y = n; z = k } f.1.0 g.1.0 fair f.1.1 g.1.1 (f.1.2 ∙ sym g.1.2)).1.0)

points_once : (l : LatticeStyle) (s : Spacing) (b : Sides) → IsFair s → AreApart (points_of l s b)
unfolding points_of
points_once l s b fair =
    apart_joined (inside_of_layer l s b) (layers l b s.z) (apart_layers l b s.z) (λ k. layer_once l s b k fair)
    (λ k n p here there. let f = in_layer l s b k p here in let g = in_layer l s b n p there in
    (same_point s record { x = f.1; y = f.0; z = k } record { x = g.1; y = g.0; z = n } f.2.0 g.2.0 fair f.2.1 g.2.1 (f.2.2 ∙ sym g.2.2)).2.0)

pub no_point_twice : (l : LatticeStyle) (s : Spacing) (b : Sides) → IsFair s → AllPairs (λ p r. p ≢ r) (points_of l s b)
no_point_twice l s b fair = pairs_differ (points_of l s b) (points_once l s b fair)
