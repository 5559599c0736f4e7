-- Pairs out of reach have no term.
use Rattle.std.proofs.Common.{◌≡◌, ◌+◌, ◌-◌, ◌*◌, ◌^◌, ◌<◌, ◌≤◌, Bool, true, false, min, ℕ, ℤ, pos, ◌-ℤ◌, ◌≤ℤ◌, ◌<ℤ◌, unsigned_abs, Ok, None, List, arith, ap, ◌∙◌}
use Rattle.std.proofs.lemmas.Int.{ints}
use Rattle.std.proofs.lemmas.Nat.{mul-le}
use Rattle.std.proofs.lemmas.Bool.Decides.{nat_tests}
use Rattle.std.specs.Prelude.{nat_lt}
use Rattle.box_geo.specs.declared.atoms.Atom.{Atom}
use Rattle.box_geo.specs.declared.sim_box.Extent.{Extent}
use Rattle.box_geo.specs.declared.sim_box.Sides.{Sides}
use Rattle.box_geo.specs.Sides.{Holds, IsInside, IsSound, IsSoundExtent, edge, length2, near_along, near_image, x_of, y_of, z_of, z_wraps}
use Rattle.box_geo.proofs.NearLemmas.{apart}
use Rattle.serial_step.specs.Forces.{Field, term_of}
use Rattle.serial_step.proofs.ForceLemmas.{is_within-far}
use Rattle.step_engine.specs.declared.reach.Reach.{Reach}
use Rattle.step_engine.specs.Ranges.{IsWithin}
use Rattle.step_engine.specs.Reach.{AreWithinTurns, IsReachOf, apart2}
use Rattle.step_engine.specs.Turns.{apart_along, turn_along}

pub far_along : (k a b c : ℕ) → k ≤ 2 ^ 28 → 2 ^ 28 ≤ a → k * k ≤ a * a + b * b + c * c
far_along k a b c short far =
    let whole : k * k ≤ a * a = mul-le k k a a (omega arith) (omega arith) in
    omega arith

-- along an axis
within_turn : (wraps : Bool) (e : Extent) (a b : ℤ) (turn : ℕ) → IsSoundExtent e → Holds e a → Holds e b → turn ≡ turn_along wraps (edge e) → unsigned_abs (a -ℤ b) ≤ turn
within_turn false e a b turn s h k is = omega (arith, ints, is, apart e a b h k)
within_turn true e a b turn s h k is = omega (arith, is, apart e a b h k)

turned : (wraps : Bool) (length d : ℤ) → pos 0 <ℤ length → length ≤ℤ pos (2 ^ 34) → unsigned_abs d < unsigned_abs length
    → min (unsigned_abs d) (turn_along wraps length - unsigned_abs d) ≡ unsigned_abs (near_along wraps length d)
turned false length d some long within = omega (arith, ints)
turned true length d some long within = grind (arith, ints)

apart_is : (wraps : Bool) (e : Extent) (a b : ℤ) (turn : ℕ) → IsSoundExtent e → Holds e a → Holds e b → turn ≡ turn_along wraps (edge e)
    → apart_along turn a b ≡ unsigned_abs (near_along wraps (edge e) (a -ℤ b))
apart_is wraps e a b turn s h k is =
    ap (λ (t : ℕ). apart_along t a b) is
    ∙ turned wraps (edge e) (a -ℤ b) (omega (arith, ints)) (omega (arith, ints)) (apart e a b h k)

-- of two positions
pub within_turns : (field : Field) (s : Sides) (r : Reach) (a b : List ℤ) → IsReachOf field s r → IsSound s → IsInside s a → IsInside s b → AreWithinTurns r a b
within_turns field s r a b is sound h k = (
  within_turn s.x.periodic s.x (x_of a) (x_of b) r.x sound.0 h.0 k.0 is.x,
  within_turn s.y.periodic s.y (y_of a) (y_of b) r.y sound.1 h.1 k.1 is.y,
  within_turn (z_wraps s) s.z (z_of a) (z_of b) r.z sound.2 h.2 k.2 is.z,
)

pub sum_of_squares : (x y z u v w : ℕ) → x ≡ u → y ≡ v → z ≡ w → x * x + y * y + z * z ≡ u * u + v * v + w * w
sum_of_squares x y z u v w f g h = cc

apart2_is : (field : Field) (s : Sides) (r : Reach) (a b : List ℤ) → IsReachOf field s r → IsSound s → IsInside s a → IsInside s b → apart2 r a b ≡ length2 (near_image s a b)
unfolding near_image
apart2_is field s r a b is sound h k =
    sum_of_squares _ _ _ _ _ _
    (apart_is s.x.periodic s.x (x_of a) (x_of b) r.x sound.0 h.0 k.0 is.x)
    (apart_is s.y.periodic s.y (y_of a) (y_of b) r.y sound.1 h.1 k.1 is.y)
    (apart_is (z_wraps s) s.z (z_of a) (z_of b) r.z sound.2 h.2 k.2 is.z)

not_below : (m n : ℕ) → n ≤ m → nat_lt m n ≡ false
not_below m n h = grind (arith, nat_tests)

pub no_term : (field : Field) (s : Sides) (r : Reach) (i j : Atom) → IsReachOf field s r → IsSound s → IsInside s i.x → IsInside s j.x
    → r.cutoff * r.cutoff ≤ apart2 r i.x j.x → term_of field s i j ≡ Ok None
no_term field s r i j is sound h k far =
    is_within-far field s r.cutoff is.cutoff (i, j)
    (not_below (length2 (near_image s i.x j.x)) (r.cutoff * r.cutoff) (omega (arith, far, apart2_is field s r i.x j.x is sound h k)))

-- positions inside the box
pub inside_within : (s : Sides) (a : List ℤ) → IsSound s → IsInside s a → IsWithin (2 ^ 34) a
inside_within s a sound h = (omega (arith, ints), omega (arith, ints), omega (arith, ints))
