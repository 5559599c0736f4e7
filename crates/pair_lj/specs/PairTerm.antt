-- The Lennard-Jones pair term with a cutoff (the manual's pair style lj/cut), for a displacement from atom j to atom i.
--
-- Every length, energy and force is in units of 2^-24. With r2 the exact square of the distance:
--   w   = sigma² / r2             in units of 2^-32
--   s6  = w³, s12 = s6²           in units of 2^-32
--   c   = 24 eps (2 s12 - s6) / r2, so that the force on i is c times the displacement
--   e   = 4 eps (s12 - s6), less the energy at the cutoff where it is shifted
-- each rounded once. Nothing acts at or beyond the cutoff.
use Rattle.std.specs.Prelude.{◌≡◌, ◌*◌, ◌^◌, ◌<◌, ◌≤◌, ◌==◌, ◌||◌, Bool, cond, nat_lt, nat_le, ℕ, ℤ, pos, neg_ℤ, ◌+ℤ◌, ◌-ℤ◌, ◌*ℤ◌, unsigned_abs, Option, Some, None, Result, Ok, Err, List, [], ◌∷◌}
use Rattle.fx_num.specs.Rounding.{nearest_of, div_rounded, shr_rounded}
use Rattle.box_geo.specs.declared.term.Term.{Term}
use Rattle.box_geo.specs.Sides.{length2, x_of, y_of, z_of, IsOpposite}
use Rattle.box_geo.specs.Terms.{dot, is_too_strong, IsModerate}
use Rattle.pair_lj.specs.declared.close.Close.{Close}

-- w: the square of sigma over that of the distance
unfoldable pub inverse_square : ℕ → ℕ → ℕ
inverse_square sigma r2 = nearest_of (sigma * sigma * 2 ^ 32) r2

-- s6 and s12
unfoldable pub sixth_power : ℕ → ℕ → ℕ
sixth_power sigma r2 =
    let w : ℕ = inverse_square sigma r2 in
    nearest_of (w * w * w) (2 ^ 64)

unfoldable pub twelfth_power : ℕ → ℕ → ℕ
twelfth_power sigma r2 =
    let s : ℕ = sixth_power sigma r2 in
    nearest_of (s * s) (2 ^ 32)

-- c: the force over the displacement
unfoldable pub strength : ℕ → ℕ → ℕ → ℤ
strength eps sigma r2 =
    div_rounded (pos (24 * eps) *ℤ (pos (2 * twelfth_power sigma r2) -ℤ pos (sixth_power sigma r2)) *ℤ pos (2 ^ 24)) (pos r2)

-- e: the energy before it is shifted
unfoldable pub energy_at : ℕ → ℕ → ℕ → ℤ
energy_at eps sigma r2 =
    shr_rounded (pos (4 * eps) *ℤ (pos (twelfth_power sigma r2) -ℤ pos (sixth_power sigma r2))) 32

-- a strength times a displacement
unfoldable pub force_along : ℤ → List ℤ → List ℤ
force_along c d = shr_rounded (c *ℤ x_of d) 32 ∷ shr_rounded (c *ℤ y_of d) 32 ∷ shr_rounded (c *ℤ z_of d) 32 ∷ []

-- two atoms at one place, or with w above 16
abbrev pub is_too_near : ℕ → ℕ → Bool
is_too_near sigma r2 = (r2 == 0) || nat_lt (2 ^ 36) (inverse_square sigma r2)

-- a term whose force, energy and virial are within their ranges
abbrev pub HasModerateForce : Term → Type 0
HasModerateForce t = IsModerate t.f

abbrev pub HasModerateEnergy : Term → Type 0
HasModerateEnergy t = unsigned_abs t.energy < 2 ^ 60

abbrev pub HasModerateVirial : Term → Type 0
HasModerateVirial t = unsigned_abs t.virial < 2 ^ 72

-- the term of a pair with a special weight in units, 2^24 for a whole term
unfoldable pub weighted_term : ℤ → ℤ → ℕ → List ℤ → Term
weighted_term c e weight d =
    let f : List ℤ = force_along (shr_rounded (c *ℤ pos weight) 24) d in
    record { f = f; energy = shr_rounded (e *ℤ pos weight) 24; virial = dot d f }

-- nothing at or beyond the cutoff; else the fault, which the weight does not change, or the term.
-- `base` is the energy that is taken off: 0, or the energy at the cutoff.
unfoldable pub pair_term : ℕ → ℕ → ℕ → ℤ → ℕ → List ℤ → Result (Option Term) Close
pair_term eps sigma cut base weight d =
    cond (nat_le (cut * cut) (length2 d)) (Ok None)
    (cond (is_too_near sigma (length2 d)) (Err record {})
    (cond (is_too_strong (force_along (strength eps sigma (length2 d)) d)) (Err record {})
    (Ok (Some (weighted_term (strength eps sigma (length2 d)) (energy_at eps sigma (length2 d) -ℤ base) weight d)))))

-- the outcomes are of one kind; of two terms the forces are opposite, the energies and virials equal
abbrev pub AreOpposite : Result (Option Term) Close → Result (Option Term) Close → Type 0
AreOpposite (Ok None) (Ok None) = Unit {0}
AreOpposite (Ok (Some s)) (Ok (Some t)) = IsOpposite s.f t.f × (t.energy ≡ s.energy) × (t.virial ≡ s.virial)
AreOpposite (Err c) (Err e) = Unit {0}
AreOpposite (Ok None) (Ok (Some t)) = ⊥
AreOpposite (Ok (Some s)) (Ok None) = ⊥
AreOpposite (Ok o) (Err e) = ⊥
AreOpposite (Err c) (Ok o) = ⊥
