-- No point of a lattice inside a box is in a cell that is not gone through.
use Rattle.std.proofs.Common.{◌≡◌, ◌+◌, ◌-◌, ◌*◌, ◌/◌, ◌<◌, ◌≤◌, ◌⊎◌, inl, inr, ℕ, zero, suc, ℤ, pos, negsuc, ◌+ℤ◌, ◌-ℤ◌, ◌*ℤ◌, ◌≤ℤ◌, ◌<ℤ◌, unsigned_abs, arith, ap, refl, ◌∙◌, ⊎_elim}
use Rattle.std.proofs.lemmas.Int.{ints}
use Rattle.std.proofs.lemmas.Bool.{cases_lt}
use Rattle.std.proofs.lemmas.Nat.{mul-le}
use Rattle.std.proofs.Math.Nat.{div-mul-le_self, lt-div-mul-add}
use Rattle.fx_num.specs.Rounding.{div_rounded}
use Rattle.fx_num.proofs.RoundingLemmas.{div_rounded_nearest}
use Rattle.box_geo.specs.declared.sim_box.Extent.{Extent}
use Rattle.box_geo.specs.Sides.{Holds}
use Rattle.box_geo.specs.Wrap.{floor_div}
use Rattle.lattice_fill.specs.Lattice.{IsFairAlong}
use Rattle.lattice_fill.specs.Points.{coordinate, from, first_cell, cells_count, cells_along}
use Rattle.lattice_fill.proofs.PlaceLemmas.{IsIn}

-- whole parts, and what is left
floor_low : (a : ℤ) (b : ℕ) → 0 < b → (floor_div a b *ℤ pos b) ≤ℤ a
floor_low (pos n) b some = omega (arith, ints, div-mul-le_self n b)
floor_low (negsuc n) b some = let h : n < n / b * b + b = lt-div-mul-add some in omega (arith, ints)

floor_high : (a : ℤ) (b : ℕ) → 0 < b → a <ℤ (floor_div a b *ℤ pos b +ℤ pos b)
floor_high (pos n) b some = let h : n < n / b * b + b = lt-div-mul-add some in omega (arith, ints)
floor_high (negsuc n) b some = omega (arith, ints, div-mul-le_self n b)

-- i·b is below j·b and one more only where i is at most j
apart_by : (i j : ℤ) → j <ℤ i → i ≡ j +ℤ pos 1 +ℤ pos (unsigned_abs (i -ℤ j -ℤ pos 1))
apart_by i j less = omega (arith, ints)

-- products of sums
under : (m n b r : ℕ) → m ≡ n + r → (negsuc m +ℤ pos n) *ℤ pos b ≡ negsuc m *ℤ pos b +ℤ pos (n * b)
under m n b r e =
    let first : negsuc m +ℤ pos n ≡ negsuc r = omega (arith, ints, e) in
    let second : negsuc r *ℤ pos b ≡ negsuc m *ℤ pos b +ℤ pos (n * b) = omega (arith, ints, ap (λ (k : ℕ). k * b) e) in
    ap (λ (z : ℤ). z *ℤ pos b) first ∙ second

over : (m n b r : ℕ) → n ≡ m + 1 + r → (negsuc m +ℤ pos n) *ℤ pos b ≡ negsuc m *ℤ pos b +ℤ pos (n * b)
over m n b r e =
    let first : negsuc m +ℤ pos n ≡ pos r = omega (arith, ints, e) in
    let second : pos r *ℤ pos b ≡ negsuc m *ℤ pos b +ℤ pos (n * b) = omega (arith, ints, ap (λ (k : ℕ). k * b) e) in
    ap (λ (z : ℤ). z *ℤ pos b) first ∙ second

pub plus_times : (x : ℤ) (n b : ℕ) → (x +ℤ pos n) *ℤ pos b ≡ x *ℤ pos b +ℤ pos (n * b)
plus_times (pos m) n b = omega (arith, ints)
plus_times (negsuc m) n b =
    ⊎_elim (λ (less : m < n). over m n b (n - (m + 1)) (omega arith)) (λ (le : n ≤ m). under m n b (m - n) (omega arith)) (cases_lt m n)

four_times : (x : ℤ) (b : ℕ) → pos 4 *ℤ x *ℤ pos b ≡ pos 4 *ℤ (x *ℤ pos b)
four_times (pos m) b = omega (arith, ints)
four_times (negsuc m) b =
    let first : pos 4 *ℤ negsuc m ≡ negsuc (4 * m + 3) = omega (arith, ints) in
    let second : negsuc (4 * m + 3) *ℤ pos b ≡ pos 4 *ℤ (negsuc m *ℤ pos b) = omega (arith, ints) in
    ap (λ (z : ℤ). z *ℤ pos b) first ∙ second

stretched : (j : ℤ) (d b : ℕ) → (j *ℤ pos b +ℤ pos b) ≤ℤ ((j +ℤ pos 1 +ℤ pos d) *ℤ pos b)
stretched j d b = omega (arith, ints, plus_times (j +ℤ pos 1) d b, plus_times j 1 b)

not_above : (i j : ℤ) (b : ℕ) → (i *ℤ pos b) <ℤ (j *ℤ pos b +ℤ pos b) → j <ℤ i → i ≤ℤ j
not_above i j b below less =
    let far : (j *ℤ pos b +ℤ pos b) ≤ℤ (i *ℤ pos b) = rw (apart_by i j less) (stretched j (unsigned_abs (i -ℤ j -ℤ pos 1)) b) in
    omega (arith, ints)

by_sign : (d : ℤ) → (pos 0 <ℤ d) ⊎ (d ≤ℤ pos 0)
by_sign (pos zero) = inr (omega (arith, ints))
by_sign (pos (suc n)) = inl (omega (arith, ints))
by_sign (negsuc n) = inr (omega (arith, ints))

pub either : (i j : ℤ) → (j <ℤ i) ⊎ (i ≤ℤ j)
either i j = ⊎_elim (λ h. inl (omega (arith, ints))) (λ h. inr (omega (arith, ints))) (by_sign (i -ℤ j))

pub at_most : (i j : ℤ) (b : ℕ) → (i *ℤ pos b) <ℤ (j *ℤ pos b +ℤ pos b) → i ≤ℤ j
at_most i j b below = ⊎_elim (not_above i j b below) (λ le. le) (either i j)

-- the cells that are gone through
from_has : (count : ℕ) (first i : ℤ) → first ≤ℤ i → i <ℤ (first +ℤ pos count) → IsIn i (from first count)
from_has zero first i low high = absurd (omega (arith, ints))
from_has (suc n) first i low high =
    ⊎_elim (λ less. inr (from_has n (first +ℤ pos 1) i (omega (arith, ints)) (omega (arith, ints)))) (λ le. let e : first ≡ i = omega (arith, ints) in inl e) (either i first)

-- a rounded quarter
pub quarter_near : (a : ℤ) → 2 * unsigned_abs (a -ℤ div_rounded a (pos 4) *ℤ pos 4) ≤ 4
quarter_near a = (div_rounded_nearest a (pos 4) (omega (arith, ints))).near

spread : (i : ℤ) (q s : ℕ) → (pos 4 *ℤ i +ℤ pos q) *ℤ pos s ≡ pos 4 *ℤ (i *ℤ pos s) +ℤ pos (q * s)
spread i q s = plus_times (pos 4 *ℤ i) q s ∙ ap (λ (z : ℤ). z +ℤ pos (q * s)) (four_times i s)

above_lower : (i : ℤ) (q s : ℕ) (x lo : ℤ) → 2 < s → q ≤ 3 → x ≡ div_rounded ((pos 4 *ℤ i +ℤ pos q) *ℤ pos s) (pos 4) → lo ≤ℤ x → lo <ℤ (i *ℤ pos s +ℤ pos s)
above_lower i q s x lo some few is low =
    let near = quarter_near ((pos 4 *ℤ i +ℤ pos q) *ℤ pos s) in
    let short : q * s ≤ 3 * s = mul-le q s 3 s few (omega arith) in
    omega (arith, ints, spread i q s)

below_upper : (i : ℤ) (q s : ℕ) (x hi : ℤ) → x ≡ div_rounded ((pos 4 *ℤ i +ℤ pos q) *ℤ pos s) (pos 4) → x <ℤ hi → (i *ℤ pos s) <ℤ hi
below_upper i q s x hi is high =
    let near = quarter_near ((pos 4 *ℤ i +ℤ pos q) *ℤ pos s) in
    omega (arith, ints, spread i q s)

-- a cell that has a point inside is gone through
pub cell_has : (e : Extent) (i : ℤ) (q s : ℕ) → IsFairAlong s → q ≤ 3 → Holds e (coordinate s i q) → IsIn i (cells_along e s)
unfolding coordinate
cell_has e i q s fair few inside =
    let some : 0 < s = omega (arith, fair.0) in
    let low : floor_div e.lo s ≤ℤ i = at_most (floor_div e.lo s) i s (omega (arith, ints, floor_low e.lo s some, above_lower i q s _ e.lo (omega (arith, fair.0)) few refl inside.0)) in
    let high : i ≤ℤ floor_div e.hi s = at_most i (floor_div e.hi s) s (omega (arith, ints, floor_high e.hi s some, below_upper i q s _ e.hi refl inside.1)) in
    from_has (cells_count e s) (first_cell e s) i low (omega (arith, ints))
