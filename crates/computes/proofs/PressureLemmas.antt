-- How large a pressure and its dividend are.
use Rattle.std.proofs.Common.{◌≡◌, ◌≢◌, ⊎_elim, ◌+◌, ◌*◌, ◌^◌, ◌<◌, ◌≤◌, ℕ, ℤ, pos, ◌+ℤ◌, ◌*ℤ◌, unsigned_abs, refl, ap, subst, arith}
use Rattle.std.proofs.lemmas.Bool.{cases_lt}
use Rattle.std.proofs.lemmas.Int.{ints}
use Rattle.std.proofs.lemmas.Nat.{mul-le, pow_pos}
use Rattle.fx_num.specs.Rounding.{RoundsTo, nearest_of, shr_rounded}
use Rattle.fx_num.proofs.RoundingLemmas.{nearest_of-le, nearest_rounds, unsigned_abs-div_rounded}
use Rattle.box_geo.specs.declared.sim_box.Extent.{Extent}
use Rattle.box_geo.specs.declared.sim_box.Sides.{Sides}
use Rattle.box_geo.specs.Sides.{IsSound, IsSoundExtent, edge, volume_of}
use Rattle.box_geo.proofs.NearLemmas.{volume_bounds, volume_of-plane, volume_of-space}
use Rattle.computes.specs.Quantities.{pressure}
use Rattle.computes.proofs.QuotientLemmas.{quotient_bound}

-- a shift divides the bound
pub shifted_bound : (a : ℤ) (k m : ℕ) → unsigned_abs a ≤ m * 2 ^ k → unsigned_abs (shr_rounded a k) ≤ m
shifted_bound a k m small = omega (arith, unsigned_abs-div_rounded a (pos (2 ^ k)), nearest_of-le (unsigned_abs a) (2 ^ k) m (pow_pos k) small)

-- both sums in units, scaled by 2^24
pub sum_bound : (x y : ℤ) → unsigned_abs x ≤ 2 ^ 73 → unsigned_abs y ≤ 2 ^ 97 → unsigned_abs ((x +ℤ y) *ℤ pos 16777216) < 2 ^ 126
sum_bound x y first second = omega (arith, ints)

pub plain_sum_bound : (x y : ℤ) → unsigned_abs x ≤ 2 ^ 73 → unsigned_abs y ≤ 2 ^ 97 → unsigned_abs (x +ℤ y) < 2 ^ 126
plain_sum_bound x y first second = omega (arith, ints)

pub small_sum : (x y : ℤ) → unsigned_abs x ≤ 2 ^ 64 → unsigned_abs y ≤ 2 ^ 56 → unsigned_abs ((x +ℤ y) *ℤ pos 16777216) ≤ 2 ^ 98
small_sum x y first second = omega (arith, ints)

-- three times the volume against the edges, all of which are at least 2^18
abbrev IsSpan : ℕ → Type 0
IsSpan x = 2 ^ 18 ≤ x

face : (x y : ℕ) → IsSpan x → IsSpan y → 2 ^ 36 ≤ x * y
face x y f g = let h : 2 ^ 18 * 2 ^ 18 ≤ x * y = mul-le (2 ^ 18) (2 ^ 18) x y f g in omega arith

along : (x y z : ℕ) → IsSpan y → IsSpan z → 2 ^ 36 * x ≤ x * y * z
along x y z g h =
    let k : x * 2 ^ 36 ≤ x * (y * z) = mul-le x (2 ^ 36) x (y * z) (omega arith) (face y z g h) in
    grind arith

edges_below : (x y z : ℕ) → IsSpan x → IsSpan y → IsSpan z → 2 ^ 36 * (x + y + z) ≤ 3 * (x * y * z)
edges_below x y z f g h =
    let a : 2 ^ 36 * x ≤ x * y * z = along x y z g h in
    let b : 2 ^ 36 * y ≤ x * y * z = grind (arith, along y x z f h) in
    let c : 2 ^ 36 * z ≤ x * y * z = grind (arith, along z x y f g) in
    omega arith

large : (x y z : ℕ) → IsSpan x → IsSpan y → IsSpan z → 2 ^ 54 ≤ x * y * z
large x y z f g h = let k : 2 ^ 36 * 2 ^ 18 ≤ x * y * z = mul-le (2 ^ 36) (2 ^ 18) (x * y) z (face x y f g) h in omega arith

-- what is at least 2^54 loses less than a half where it is rounded to units of 2^48
half_kept : (n v : ℕ) → 2 ^ 54 ≤ n → RoundsTo n (2 ^ 48) v → n ≤ v * 2 ^ 49
half_kept n v large r = let low : 2 * n < 2 * (v * 2 ^ 48) + 2 ^ 48 = r.at_least in omega arith

-- the dividend of a pressure against three times the volume
dividend_below : (r q p v sum : ℕ) → r ≤ 2 ^ 68 → q ≤ 2 ^ 57 * sum → 2 ^ 36 * sum ≤ 3 * p → 2 ^ 54 ≤ p → p ≤ v * 2 ^ 49 → (r + q) * 2 ^ 24 ≤ 2 ^ 98 * (3 * v)
dividend_below r q p v sum kinetic virial low large half = omega arith

long : (e : Extent) → IsSoundExtent e → IsSpan (unsigned_abs (edge e))
long e h = omega (arith, ints)

dividend_parts : (x y : ℤ) → unsigned_abs ((x +ℤ y) *ℤ pos 16777216) ≤ (unsigned_abs x + unsigned_abs y) * 2 ^ 24
dividend_parts x y = omega (arith, ints)

-- the volume of a box in space holds at least half of the product of its edges
product_below : (s : Sides) → IsSound s → s.dim ≡ 3 → unsigned_abs (edge s.x) * unsigned_abs (edge s.y) * unsigned_abs (edge s.z) ≤ volume_of s * 2 ^ 49
product_below s sound space =
    let x : ℕ = unsigned_abs (edge s.x) in
    let y : ℕ = unsigned_abs (edge s.y) in
    let z : ℕ = unsigned_abs (edge s.z) in
    let is : nearest_of (x * y * z) (2 ^ 48) ≡ volume_of s = volume_of-space s x y z space refl refl refl in
    let rounds : RoundsTo (x * y * z) (2 ^ 48) (volume_of s) = subst (λ (v : ℕ). RoundsTo (x * y * z) (2 ^ 48) v) is (nearest_rounds (x * y * z) (2 ^ 48) (omega arith)) in
    half_kept (x * y * z) (volume_of s) (large x y z (long s.x sound.0) (long s.y sound.1) (long s.z sound.2)) rounds

-- a pressure in space has its bound even for the virial of as many pairs as there may be
fits_in_space : (s w : ℤ) (sides : Sides) → IsSound sides → sides.dim ≡ 3 → unsigned_abs s ≤ 2 ^ 116
    → unsigned_abs w ≤ 2 ^ 81 * (unsigned_abs (edge sides.x) + unsigned_abs (edge sides.y) + unsigned_abs (edge sides.z)) → unsigned_abs (pressure s w sides) ≤ 2 ^ 98
unfolding pressure
fits_in_space s w sides sound space kinetic virial =
    let x : ℕ = unsigned_abs (edge sides.x) in
    let y : ℕ = unsigned_abs (edge sides.y) in
    let z : ℕ = unsigned_abs (edge sides.z) in
    let v : ℕ = volume_of sides in
    let a : IsSpan x = long sides.x sound.0 in
    let b : IsSpan y = long sides.y sound.1 in
    let c : IsSpan z = long sides.z sound.2 in
    let r : unsigned_abs (shr_rounded s 48) ≤ 2 ^ 68 = shifted_bound s 48 (2 ^ 68) kinetic in
    let q : unsigned_abs (shr_rounded w 24) ≤ 2 ^ 57 * (x + y + z) = shifted_bound w 24 (2 ^ 57 * (x + y + z)) (omega arith) in
    let low : (unsigned_abs (shr_rounded s 48) + unsigned_abs (shr_rounded w 24)) * 2 ^ 24 ≤ 2 ^ 98 * (3 * v) =
    dividend_below _ _ (x * y * z) v (x + y + z) r q (edges_below x y z a b c) (large x y z a b c) (product_below sides sound space) in
    let directions : sides.dim * v ≡ 3 * v = ap (λ (n : ℕ). n * v) space in
    quotient_bound ((shr_rounded s 48 +ℤ shr_rounded w 24) *ℤ pos (2 ^ 24)) (sides.dim * v) (2 ^ 98)
    (omega (arith, volume_bounds sides sound))
    (omega (arith, dividend_parts (shr_rounded s 48) (shr_rounded w 24)))

-- the area of a box in the plane is at least 2^12 units
wide : (x y : ℕ) → IsSpan x → IsSpan y → 2 ^ 12 ≤ nearest_of (x * y) (2 ^ 24)
wide x y f g = let r : RoundsTo (x * y) (2 ^ 24) (nearest_of (x * y) (2 ^ 24)) = nearest_rounds (x * y) (2 ^ 24) (omega arith) in omega (arith, face x y f g, r.at_least)

area_above : (sides : Sides) → IsSound sides → sides.dim ≡ 2 → 2 ^ 12 ≤ volume_of sides
area_above sides sound plane =
    let x : ℕ = unsigned_abs (edge sides.x) in
    let y : ℕ = unsigned_abs (edge sides.y) in
    let differ : sides.dim ≢ 3 = λ space. cc in
    subst (λ (v : ℕ). 2 ^ 12 ≤ v) (volume_of-plane sides x y differ refl refl) (wide x y (long sides.x sound.0) (long sides.y sound.1))

dividend_in_plane : (r q v : ℕ) → r ≤ 2 ^ 68 → q ≤ 3 * 2 ^ 85 → 2 ^ 12 ≤ v → (r + q) * 2 ^ 24 ≤ 2 ^ 98 * (2 * v)
dividend_in_plane r q v kinetic virial large = omega arith

-- so has one in the plane, as no cutoff is longer than 2^28
fits_in_plane : (s w : ℤ) (sides : Sides) → IsSound sides → sides.dim ≡ 2 → unsigned_abs s ≤ 2 ^ 116 → unsigned_abs w ≤ 3 * 2 ^ 109 → unsigned_abs (pressure s w sides) ≤ 2 ^ 98
unfolding pressure
fits_in_plane s w sides sound plane kinetic virial =
    let v : ℕ = volume_of sides in
    let r : unsigned_abs (shr_rounded s 48) ≤ 2 ^ 68 = shifted_bound s 48 (2 ^ 68) kinetic in
    let q : unsigned_abs (shr_rounded w 24) ≤ 3 * 2 ^ 85 = shifted_bound w 24 (3 * 2 ^ 85) (omega arith) in
    let low : (unsigned_abs (shr_rounded s 48) + unsigned_abs (shr_rounded w 24)) * 2 ^ 24 ≤ 2 ^ 98 * (2 * v) =
    dividend_in_plane _ _ v r q (area_above sides sound plane) in
    let directions : sides.dim * v ≡ 2 * v = ap (λ (n : ℕ). n * v) plane in
    quotient_bound ((shr_rounded s 48 +ℤ shr_rounded w 24) *ℤ pos (2 ^ 24)) (sides.dim * v) (2 ^ 98)
    (omega (arith, volume_bounds sides sound))
    (omega (arith, dividend_parts (shr_rounded s 48) (shr_rounded w 24)))

pub pressure_fits : (s w : ℤ) (sides : Sides) → IsSound sides → unsigned_abs s ≤ 2 ^ 116 → unsigned_abs w ≤ 3 * 2 ^ 109
    → unsigned_abs w ≤ 2 ^ 81 * (unsigned_abs (edge sides.x) + unsigned_abs (edge sides.y) + unsigned_abs (edge sides.z)) → unsigned_abs (pressure s w sides) ≤ 2 ^ 98
pressure_fits s w sides sound kinetic reached virial =
    ⊎_elim
    (λ (flat : sides.dim < 3). fits_in_plane s w sides sound (omega (arith, sound.3)) kinetic reached)
    (λ (deep : 3 ≤ sides.dim). fits_in_space s w sides sound (omega (arith, sound.4)) kinetic virial)
    (cases_lt sides.dim 3)
