-- Along one axis: a number is between the sides of just the brick at its place.
use Rattle.std.proofs.Common.{◌≡◌, ◌+◌, ◌-◌, ◌*◌, ◌/◌, ◌<◌, ◌≤◌, ℕ, suc, ℤ, pos, ◌+ℤ◌, ◌-ℤ◌, ◌<ℤ◌, ◌≤ℤ◌, unsigned_abs, arith}
use Rattle.std.proofs.lemmas.Int.{ints}
use Rattle.std.proofs.lemmas.Nat.{mul-le, div_below, le-div}
use Rattle.std.proofs.Math.Nat.{mul-div-le, lt-mul-div-succ, div-mul-le_self, lt-div-mul-add, div-eq_of_lt-le}
use Rattle.box_geo.specs.declared.sim_box.Extent.{Extent}
use Rattle.box_geo.specs.Sides.{Holds, edge}
use Rattle.rank_grid.specs.Bricks.{IsBetween, place_along, side_along}

-- in whole numbers from the low side on: p parts of e, the offset o
place_below : (p e o : ℕ) → 0 < p → o < e → o * p / e < p
place_below p e o some within =
    let row : suc o * p ≤ e * p = mul-le (suc o) p e p within (omega arith) in
    div_below (o * p) e p (omega arith) (omega arith)

side_within : (p e k : ℕ) → 0 < p → k ≤ p → (k * e + (p - 1)) / p ≤ e
side_within p e k some most =
    let row : k * e ≤ p * e = mul-le k e p e most (omega arith) in
    let below : (k * e + (p - 1)) / p < e + 1 = div_below (k * e + (p - 1)) p (e + 1) some (omega arith) in
    omega arith

at_low : (p e o : ℕ) → 0 < p → (o * p / e * e + (p - 1)) / p ≤ o
at_low p e o some =
    let whole : o * p / e * e ≤ o * p = div-mul-le_self (o * p) e in
    let below : (o * p / e * e + (p - 1)) / p < o + 1 = div_below (o * p / e * e + (p - 1)) p (o + 1) some (omega arith) in
    omega arith

below_high : (p e o : ℕ) → 0 < p → 0 < e → o < ((o * p / e + 1) * e + (p - 1)) / p
below_high p e o some long =
    let past : o * p < o * p / e * e + e = lt-div-mul-add long in
    let least : o + 1 ≤ ((o * p / e + 1) * e + (p - 1)) / p = le-div (o + 1) ((o * p / e + 1) * e + (p - 1)) p some (omega arith) in
    omega arith

from_low : (p e o k : ℕ) → 0 < p → (k * e + (p - 1)) / p ≤ o → k * e ≤ o * p
from_low p e o k some low =
    let past : k * e + (p - 1) < p * ((k * e + (p - 1)) / p + 1) = lt-mul-div-succ (k * e + (p - 1)) some in
    let most : p * ((k * e + (p - 1)) / p + 1) ≤ p * (o + 1) = mul-le p ((k * e + (p - 1)) / p + 1) p (o + 1) (omega arith) (omega arith) in
    omega arith

from_high : (p e o k : ℕ) → 0 < p → o < ((k + 1) * e + (p - 1)) / p → o * p < (k + 1) * e
from_high p e o k some high =
    let whole : p * (((k + 1) * e + (p - 1)) / p) ≤ (k + 1) * e + (p - 1) = mul-div-le ((k + 1) * e + (p - 1)) p in
    let least : p * (o + 1) ≤ p * (((k + 1) * e + (p - 1)) / p) = mul-le p (o + 1) p (((k + 1) * e + (p - 1)) / p) (omega arith) (omega arith) in
    omega arith

place_is : (p e o k : ℕ) → 0 < p → (k * e + (p - 1)) / p ≤ o → o < ((k + 1) * e + (p - 1)) / p → o * p / e ≡ k
place_is p e o k some low high =
    let least : k * e ≤ o * p = from_low p e o k some low in
    let most : o * p < (k + 1) * e = from_high p e o k some high in
    div-eq_of_lt-le e least most

-- the same of the numbers of an axis
offset_within : (e : Extent) (x : ℤ) → Holds e x → unsigned_abs (x -ℤ e.lo) < unsigned_abs (edge e)
offset_within e x h = omega (arith, ints)

pub place_along-below : (p : ℕ) (e : Extent) (x : ℤ) → 1 ≤ p → Holds e x → place_along p e x < p
place_along-below p e x some h = place_below p (unsigned_abs (edge e)) (unsigned_abs (x -ℤ e.lo)) some (offset_within e x h)

pub side_along-within : (p : ℕ) (e : Extent) (k : ℕ) → 1 ≤ p → k ≤ p → pos 0 <ℤ edge e → (e.lo ≤ℤ side_along p e k) × (side_along p e k ≤ℤ e.hi)
side_along-within p e k some most long =
    let within : (k * unsigned_abs (edge e) + (p - 1)) / p ≤ unsigned_abs (edge e) = side_within p (unsigned_abs (edge e)) k some most in
    (omega (arith, ints), omega (arith, ints))

between : (e : Extent) (x : ℤ) (low high : ℕ) → e.lo ≤ℤ x → low ≤ unsigned_abs (x -ℤ e.lo) → unsigned_abs (x -ℤ e.lo) < high → IsBetween (e.lo +ℤ pos low) (e.lo +ℤ pos high) x
between e x low high least f g = (omega (arith, ints), omega (arith, ints))

from_between : (e : Extent) (x : ℤ) (low high : ℕ) → IsBetween (e.lo +ℤ pos low) (e.lo +ℤ pos high) x → (low ≤ unsigned_abs (x -ℤ e.lo)) × (unsigned_abs (x -ℤ e.lo) < high)
from_between e x low high h = (omega (arith, ints), omega (arith, ints))

pub place_along-between : (p : ℕ) (e : Extent) (x : ℤ) → 1 ≤ p → Holds e x → IsBetween (side_along p e (place_along p e x)) (side_along p e (place_along p e x + 1)) x
place_along-between p e x some h =
    let l : ℕ = unsigned_abs (edge e) in
    let o : ℕ = unsigned_abs (x -ℤ e.lo) in
    let long : 0 < l = omega (arith, offset_within e x h) in
    between e x ((o * p / l * l + (p - 1)) / p) (((o * p / l + 1) * l + (p - 1)) / p) h.0 (at_low p l o some) (below_high p l o some long)

pub place_along-only : (p : ℕ) (e : Extent) (x : ℤ) (k : ℕ) → 1 ≤ p → IsBetween (side_along p e k) (side_along p e (k + 1)) x → place_along p e x ≡ k
place_along-only p e x k some h =
    let l : ℕ = unsigned_abs (edge e) in
    let o : ℕ = unsigned_abs (x -ℤ e.lo) in
    let f = from_between e x ((k * l + (p - 1)) / p) (((k + 1) * l + (p - 1)) / p) h in
    place_is p l o k some f.0 f.1

-- the same in the words of the code
pub quotient_below : (p : ℕ) (e : Extent) (x : ℤ) (o l q : ℕ) → 1 ≤ p → Holds e x → o ≡ unsigned_abs (x -ℤ e.lo) → l ≡ unsigned_abs (edge e) → q ≡ p → o * q / l < p
quotient_below p e x o l q some h f g k = rw (f, g, k) (place_along-below p e x some h)
