-- Within half the skin: the displacement of two references is at most that of their atoms, and how far each has moved.
use Rattle.std.proofs.Common.{◌≡◌, ◌+◌, ◌*◌, ◌<◌, ◌≤◌, ◌||◌, Bool, true, false, cond, ℕ, zero, suc, ℤ, pos, negsuc, ◌+ℤ◌, ◌-ℤ◌, ◌*ℤ◌, ◌<ℤ◌, int_lt, neg_ℤ, unsigned_abs, List, [], ◌∷◌, length, get_or, refl, arith}
use Rattle.std.specs.Prelude.{nat_lt, slice_index_or}
use Rattle.std.specs.List.{All, list_any, zip}
use Rattle.std.proofs.lemmas.Bool.Decides.{nat_tests}
use Rattle.std.proofs.lemmas.Int.{ints}
use Rattle.box_geo.specs.Sides.{x_of, y_of, z_of, edge, z_wraps, near_along, near_image, length2, Holds, IsInside}
use Rattle.box_geo.specs.declared.sim_box.Extent.{Extent}
use Rattle.box_geo.specs.declared.sim_box.Sides.{Sides}
use Rattle.box_geo.proofs.NearLemmas.{apart, has_edge}
use Rattle.serial_step.specs.Rebuild.{is_far, renews}
use Rattle.list_laws.proofs.LengthLemmas.{within_skin}

-- a whole number of edges apart, by two counts
pub record AreApart (e : ℕ) (s t : ℤ) : Type 0 where
  pub i : ℕ
  pub j : ℕ
  pub is : s +ℤ pos (i * e) ≡ t +ℤ pos (j * e)

-- of such numbers one of at most half an edge is the shortest
pub shortest_by : (e i j : ℕ) (s t : ℤ) → s +ℤ pos (i * e) ≡ t +ℤ pos (j * e) → 2 * unsigned_abs s ≤ e → unsigned_abs s ≤ unsigned_abs t
shortest_by e zero zero s t is half = omega (arith, ints)
shortest_by e zero (suc j) s t is half = omega (arith, ints)
shortest_by e (suc i) zero s t is half = omega (arith, ints)
shortest_by e (suc i) (suc j) s t is half = shortest_by e i j s t (omega (arith, ints)) half

pub near_half : (e : ℕ) (d : ℤ) → unsigned_abs d ≤ e → 2 * unsigned_abs (near_along true (pos e) d) ≤ e
near_half e d within = grind (arith, ints)

by_tests : (above below : Bool) (e : ℕ) (d : ℤ) → AreApart e (cond above (d -ℤ pos e) (cond below (d +ℤ pos e) d)) d
by_tests true below e d = record { i = 1; j = 0; is = omega (arith, ints) }
by_tests false true e d = record { i = 0; j = 1; is = omega (arith, ints) }
by_tests false false e d = record { i = 0; j = 0; is = omega (arith, ints) }

pub near_apart : (e : ℕ) (d : ℤ) → AreApart e (near_along true (pos e) d) d
near_apart e d = by_tests (int_lt (pos e) (pos 2 *ℤ d)) (int_lt (pos 2 *ℤ d) (neg_ℤ (pos e))) e d

pub AreApart-around : (e : ℕ) (m l n k p q r t : ℤ) → AreApart e m p → AreApart e l q → AreApart e n r → AreApart e k t → t ≡ p -ℤ q +ℤ r → AreApart e k (m -ℤ l +ℤ n)
AreApart-around e m l n k p q r t f g h w is = record {
  i = w.i + f.j + g.i + h.j;
  j = w.j + f.i + g.j + h.i;
  is = omega (arith, ints, f.is, g.is, h.is, w.is, is);
}

pub around : (m l n k : ℤ) → unsigned_abs k ≤ unsigned_abs (m -ℤ l +ℤ n) → unsigned_abs k ≤ unsigned_abs m + unsigned_abs l + unsigned_abs n
around m l n k h = omega (arith, ints)

-- along one axis
three_steps : (wraps : Bool) (length a b u v : ℤ) → pos 0 <ℤ length → unsigned_abs (u -ℤ v) < unsigned_abs length
    → unsigned_abs (near_along wraps length (u -ℤ v)) ≤ unsigned_abs (near_along wraps length (a -ℤ b)) + unsigned_abs (near_along wraps length (a -ℤ u)) + unsigned_abs (near_along wraps length (b -ℤ v))
three_steps false length a b u v some within = omega (arith, ints)
three_steps true (negsuc e) a b u v some within = absurd (omega (arith, ints))
three_steps true (pos e) a b u v some within =
    let m : ℤ = near_along true (pos e) (a -ℤ b) in
    let l : ℤ = near_along true (pos e) (a -ℤ u) in
    let n : ℤ = near_along true (pos e) (b -ℤ v) in
    let k : ℤ = near_along true (pos e) (u -ℤ v) in
    let w = AreApart-around e m l n k (a -ℤ b) (a -ℤ u) (b -ℤ v) (u -ℤ v) (near_apart e (a -ℤ b)) (near_apart e (a -ℤ u)) (near_apart e (b -ℤ v)) (near_apart e (u -ℤ v)) (omega (arith, ints)) in
    around m l n k (shortest_by e w.i w.j k (m -ℤ l +ℤ n) w.is (near_half e (u -ℤ v) (omega arith)))

pub not_below : (m n : ℕ) → nat_lt m n ≡ false → n ≤ m
not_below m n h = grind (arith, nat_tests)

along : (e : Extent) (wraps : Bool) (a b u v : ℤ) → Holds e u → Holds e v
    → unsigned_abs (near_along wraps (edge e) (u -ℤ v)) ≤ unsigned_abs (near_along wraps (edge e) (a -ℤ b)) + unsigned_abs (near_along wraps (edge e) (a -ℤ u)) + unsigned_abs (near_along wraps (edge e) (b -ℤ v))
along e wraps a b u v h k = three_steps wraps (edge e) a b u v (has_edge e u h) (apart e u v h k)

pub none_missed : (s : Sides) (cutoff skin : ℕ) (a b u v : List ℤ) → IsInside s u → IsInside s v
    → is_far s skin (a, u) ≡ false → is_far s skin (b, v) ≡ false
    → length2 (near_image s a b) < cutoff * cutoff → length2 (near_image s u v) < (cutoff + skin) * (cutoff + skin)
unfolding near_image
none_missed s cutoff skin a b u v hu hv one two near =
    within_skin cutoff skin
    (unsigned_abs (near_along s.x.periodic (edge s.x) (x_of a -ℤ x_of b)))
    (unsigned_abs (near_along s.y.periodic (edge s.y) (y_of a -ℤ y_of b)))
    (unsigned_abs (near_along (z_wraps s) (edge s.z) (z_of a -ℤ z_of b)))
    (unsigned_abs (near_along s.x.periodic (edge s.x) (x_of a -ℤ x_of u)))
    (unsigned_abs (near_along s.y.periodic (edge s.y) (y_of a -ℤ y_of u)))
    (unsigned_abs (near_along (z_wraps s) (edge s.z) (z_of a -ℤ z_of u)))
    (unsigned_abs (near_along s.x.periodic (edge s.x) (x_of b -ℤ x_of v)))
    (unsigned_abs (near_along s.y.periodic (edge s.y) (y_of b -ℤ y_of v)))
    (unsigned_abs (near_along (z_wraps s) (edge s.z) (z_of b -ℤ z_of v)))
    (unsigned_abs (near_along s.x.periodic (edge s.x) (x_of u -ℤ x_of v)))
    (unsigned_abs (near_along s.y.periodic (edge s.y) (y_of u -ℤ y_of v)))
    (unsigned_abs (near_along (z_wraps s) (edge s.z) (z_of u -ℤ z_of v)))
    (along s.x s.x.periodic (x_of a) (x_of b) (x_of u) (x_of v) hu.0 hv.0)
    (along s.y s.y.periodic (y_of a) (y_of b) (y_of u) (y_of v) hu.1 hv.1)
    (along s.z (z_wraps s) (z_of a) (z_of b) (z_of u) (z_of v) hu.2 hv.2)
    near
    (not_below (skin * skin) (4 * length2 (near_image s a u)) one)
    (not_below (skin * skin) (4 * length2 (near_image s b v)) two)

-- none of a list is far: none at any place
or_none : (b c : Bool) → (b || c) ≡ false → (b ≡ false) × (c ≡ false)
or_none true c h = cc
or_none false c h = (refl, h)

none_at : (p : List ℤ × List ℤ → Bool) (xs ys : List (List ℤ)) (i : ℕ) (d : List ℤ) → length ys ≡ length xs → list_any p (zip xs ys) ≡ false → i < length xs → p (get_or xs i d, get_or ys i d) ≡ false
none_at p [] ys i d same none lt = absurd (omega arith)
none_at p (x ∷ xs) [] i d same none lt = absurd (omega arith)
none_at p (x ∷ xs) (y ∷ ys) zero d same none lt = (or_none (p (x, y)) (list_any p (zip xs ys)) none).0
none_at p (x ∷ xs) (y ∷ ys) (suc i) d same none lt = none_at p xs ys i d (omega arith) (or_none (p (x, y)) (list_any p (zip xs ys)) none).1 (omega arith)

pub none_missed_in : (s : Sides) (cutoff skin : ℕ) (now references : List (List ℤ)) (i j : ℕ) (d : List ℤ)
    → All (IsInside s) references → length references ≡ length now → renews s skin now references ≡ false → i < length now → j < length now
    → length2 (near_image s (slice_index_or now i d) (slice_index_or now j d)) < cutoff * cutoff
    → length2 (near_image s (slice_index_or references i d) (slice_index_or references j d)) < (cutoff + skin) * (cutoff + skin)
unfolding renews
none_missed_in s cutoff skin now references i j d inside same none hi hj near =
    none_missed s cutoff skin (get_or now i d) (get_or now j d) (get_or references i d) (get_or references j d)
    (inside i d (omega arith)) (inside j d (omega arith))
    (none_at (is_far s skin) now references i d same none hi) (none_at (is_far s skin) now references j d same none hj) near
