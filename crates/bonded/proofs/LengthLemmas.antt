-- Lengths within the reach, and forces without a great component, as code tests them.
use Rattle.std.proofs.Common.{◌≡◌, ◌+◌, ◌-◌, ◌*◌, ◌^◌, ◌<◌, ◌≤◌, ◌||◌, Bool, true, false, cond, nat_lt, ℕ, ℤ, pos, ◌<ℤ◌, ◌≤ℤ◌, unsigned_abs, to_z, of_z, w64, FitsSigned, Some, None, List, [], ◌∷◌, arith, refl, sym, ap, ◌∙◌}
use Rattle.std.specs.Int.{w128}
use Rattle.std.proofs.lemmas.Int.{ints, fits_signed_from_abs, to_z_pos}
use Rattle.std.proofs.lemmas.Bool.Decides.{nat_tests}
use Rattle.std.proofs.lemmas.Nat.{mul-le}
use Rattle.fx_num.specs.Rounding.{div_rounded}
use Rattle.fx_num.specs.Roots.{square, IsNearestRoot, sqrt_of}
use Rattle.box_geo.specs.Sides.{x_of, y_of, z_of, length2, IsWithin}
use Rattle.box_geo.specs.Terms.{is_too_strong, IsModerate}
use Rattle.bonded.proofs.SignLemmas.{wide, word}
use Rattle.bonded.specs.Lengths.{divided, is_out_of_reach, length_of, length_within, unless_strong}

-- which of the two an answer was
module _ {X : Type 0} where
  pub left_out : (b : Bool) (x : X) → None ≡ cond b None (Some x) → b ≡ true
  left_out true x e = refl
  left_out false x e = absurd cc

  pub let_in : (b : Bool) (x y : X) → Some y ≡ cond b None (Some x) → (b ≡ false) × (y ≡ x)
  let_in true x y e = absurd cc
  let_in false x y e = (refl, cc)

pub in_reach : (rcmax : ℤ) (d : List ℤ) (r2 m r : ℕ) → r2 ≡ length2 d → m ≡ unsigned_abs rcmax → (r2 ≡ 0 → ⊥) → r2 ≤ m * m → r ≡ sqrt_of r2 → Some r ≡ length_within rcmax d
unfolding length_of
in_reach rcmax d r2 m r er em some low e =
    let low_is : length2 d ≤ unsigned_abs rcmax * unsigned_abs rcmax = omega (arith, er, ap (λ (n : ℕ). n * n) em) in
    let some_is : length2 d ≡ 0 → ⊥ = λ h. some (er ∙ h) in
    let test : is_out_of_reach rcmax d ≡ false = grind (arith, nat_tests) in
    rw test (ap (λ (n : ℕ). Some n) (e ∙ ap sqrt_of er))

pub reach_small : (m : ℕ) (rcmax : ℤ) → m ≡ unsigned_abs rcmax → (pos 0 <ℤ rcmax) × (rcmax ≤ℤ pos (2 ^ 28)) → m ≤ 2 ^ 28
reach_small m rcmax e h =
    let low : pos 0 <ℤ rcmax = h.0 in
    let high : rcmax ≤ℤ pos (2 ^ 28) = h.1 in
    omega (arith, ints)

square_small : (m : ℕ) → m ≤ 2 ^ 28 → m * m ≤ 2 ^ 56
square_small m low = let most : m * m ≤ 2 ^ 28 * 2 ^ 28 = mul-le m m (2 ^ 28) (2 ^ 28) low low in omega arith

below_root : (m n : ℕ) → m * m < n * n → m < n
below_root m n h = grind arith

pub root_small : (r2 m r : ℕ) → IsNearestRoot square r2 r → (r2 ≡ 0 → ⊥) → r2 ≤ m * m → m ≤ 2 ^ 28 → r ≤ 2 ^ 28
root_small r2 m r root some low short =
    let high : r2 ≤ 2 ^ 56 = omega (arith, square_small m short) in
    let positive : 0 < r2 = omega arith in
    let least : (2 * r - 1) * (2 * r - 1) < 4 * r2 = root.at_least positive in
    let less : 2 * r - 1 < 2 ^ 29 + 1 = below_root (2 * r - 1) (2 ^ 29 + 1) (omega arith) in
    omega arith

part_small : (a r2 m : ℕ) → a * a ≤ r2 → r2 ≤ m * m → m ≤ 2 ^ 28 → a ≤ 2 ^ 28
part_small a r2 m part low short =
    let high : r2 ≤ 2 ^ 56 = omega (arith, square_small m short) in
    let less : a < 2 ^ 28 + 1 = below_root a (2 ^ 28 + 1) (omega arith) in
    omega arith

pub parts_small : (d : List ℤ) (r2 m : ℕ) → r2 ≡ length2 d → r2 ≤ m * m → m ≤ 2 ^ 28 → IsWithin (2 ^ 28) d
parts_small d r2 m e low short = (
  part_small (unsigned_abs (x_of d)) r2 m (omega arith) low short,
  part_small (unsigned_abs (y_of d)) r2 m (omega arith) low short,
  part_small (unsigned_abs (z_of d)) r2 m (omega arith) low short,
)

-- a force component by component, as code divides
component_is : (p x : ℤ) (n : ℕ) → unsigned_abs x ≤ 2 ^ 120 → n < 2 ^ 120 → p ≡ div_rounded (to_z w128 (of_z w128 x)) (to_z w128 n) → unsigned_abs p ≤ unsigned_abs (to_z w128 (of_z w128 x))
    → to_z w128 (of_z w128 p) ≡ div_rounded x (pos n)
component_is p x n lx ln e bound =
    let x_is : to_z w128 (of_z w128 x) ≡ x = wide x (omega arith) in
    let low : unsigned_abs p ≤ 2 ^ 120 = omega (arith, ap unsigned_abs x_is) in
    wide p (omega arith) ∙ e ∙ ap (λ (z : ℤ). div_rounded z (to_z w128 n)) x_is ∙ ap (λ (z : ℤ). div_rounded x z) (to_z_pos w128 n (omega arith))

pub divided_is : (v : List ℤ) (n : ℕ) (p q r : ℤ) → IsWithin (2 ^ 120) v → n < 2 ^ 120
    → p ≡ div_rounded (to_z w128 (of_z w128 (x_of v))) (to_z w128 n) → unsigned_abs p ≤ unsigned_abs (to_z w128 (of_z w128 (x_of v)))
    → q ≡ div_rounded (to_z w128 (of_z w128 (y_of v))) (to_z w128 n) → unsigned_abs q ≤ unsigned_abs (to_z w128 (of_z w128 (y_of v)))
    → r ≡ div_rounded (to_z w128 (of_z w128 (z_of v))) (to_z w128 n) → unsigned_abs r ≤ unsigned_abs (to_z w128 (of_z w128 (z_of v)))
    → to_z w128 (of_z w128 p) ∷ to_z w128 (of_z w128 q) ∷ to_z w128 (of_z w128 r) ∷ [] ≡ divided v n
divided_is v n p q r h ln ep lp eq lq er lr =
    let x = component_is p (x_of v) n h.0 ln ep lp in
    let y = component_is q (y_of v) n h.1 ln eq lq in
    let z = component_is r (z_of v) n h.2 ln er lr in
    cc

-- and casts what is moderate; x is a component as it is held
pub cast_fits : (x : ℤ) → unsigned_abs x ≤ 2 ^ 42 → FitsSigned w64 (to_z w128 (of_z w128 x))
cast_fits x low = rw (wide x (omega arith)) (fits_signed_from_abs w64 x (omega arith))

pub cast_is : (x : ℤ) → unsigned_abs x ≤ 2 ^ 42 → to_z w64 (of_z w64 (to_z w128 (of_z w128 x))) ≡ x
cast_is x low = rw (wide x (omega arith)) (word x (omega arith))

pub cast_all : (x y z : ℤ) → IsModerate (x ∷ y ∷ z ∷ []) → to_z w64 (of_z w64 (to_z w128 (of_z w128 x))) ∷ to_z w64 (of_z w64 (to_z w128 (of_z w128 y))) ∷ to_z w64 (of_z w64 (to_z w128 (of_z w128 z))) ∷ [] ≡ x ∷ y ∷ z ∷ []
cast_all x y z h =
    let ex = cast_is x h.0 in
    let ey = cast_is y h.1 in
    let ez = cast_is z h.2 in
    cc

pub strong_is : (f : List ℤ) (b : Bool) → b ≡ true → b ≡ is_too_strong f → None ≡ unless_strong f
strong_is f b e test = let h : is_too_strong f ≡ true = sym test ∙ e in rw h refl

pub mild_is : (f : List ℤ) (b : Bool) → b ≡ false → b ≡ is_too_strong f → Some f ≡ unless_strong f
mild_is f b e test = let h : is_too_strong f ≡ false = sym test ∙ e in rw h refl

pub mild_parts : (f : List ℤ) → is_too_strong f ≡ false → IsModerate f
mild_parts f h = by_parts (unsigned_abs (x_of f)) (unsigned_abs (y_of f)) (unsigned_abs (z_of f)) h
  where
    by_parts : (a b c : ℕ) → (nat_lt (2 ^ 42) a || nat_lt (2 ^ 42) b || nat_lt (2 ^ 42) c) ≡ false → (a ≤ 2 ^ 42) × (b ≤ 2 ^ 42) × (c ≤ 2 ^ 42)
    by_parts a b c e = (grind (arith, nat_tests), grind (arith, nat_tests), grind (arith, nat_tests))

pub mild_list : (f : List ℤ) (b : Bool) → b ≡ false → b ≡ is_too_strong f → IsModerate f
mild_list f b e test = mild_parts f (sym test ∙ e)
