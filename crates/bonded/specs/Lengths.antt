-- What the terms of bonds and angles share: which displacements are a fault, and quotients. Lengths are in units of 2^-24.
use Rattle.std.specs.Prelude.{◌==◌, ◌*◌, ◌||◌, Bool, cond, nat_lt, ℕ, ℤ, pos, ◌<ℤ◌, ◌≤ℤ◌, unsigned_abs, Option, Some, None, List, [], ◌∷◌}
use Rattle.fx_num.specs.Rounding.{div_rounded}
use Rattle.fx_num.specs.Roots.{sqrt_of}
use Rattle.box_geo.specs.declared.limits.TheConstants.{MAX_CUTOFF, MAX_REST_LENGTH, MAX_STIFFNESS}
use Rattle.box_geo.specs.Sides.{length2, x_of, y_of, z_of}
use Rattle.box_geo.specs.Terms.{is_too_strong}

-- the length of a displacement, rounded
unfoldable pub length_of : List ℤ → ℕ
length_of d = sqrt_of (length2 d)

-- two atoms at one place, or further apart than the greatest of all cutoffs
abbrev pub is_out_of_reach : ℤ → List ℤ → Bool
is_out_of_reach rcmax d = (length2 d == 0) || nat_lt (unsigned_abs rcmax * unsigned_abs rcmax) (length2 d)

-- the length of a displacement in reach
abbrev pub length_within : ℤ → List ℤ → Option ℕ
length_within rcmax d = cond (is_out_of_reach rcmax d) None (Some (length_of d))

-- a vector over a number, each component rounded once
abbrev pub divided : List ℤ → ℕ → List ℤ
divided v n = div_rounded (x_of v) (pos n) ∷ div_rounded (y_of v) (pos n) ∷ div_rounded (z_of v) (pos n) ∷ []

-- a force, if it has no component above 2^42
abbrev pub unless_strong : List ℤ → Option (List ℤ)
unless_strong f = cond (is_too_strong f) None (Some f)

-- the greatest of all cutoffs is above 0 and at most 16
abbrev pub IsReach : ℤ → Type 0
IsReach rcmax = (pos 0 <ℤ rcmax) × (rcmax ≤ℤ MAX_CUTOFF)

-- a stiffness is from 0 to 16384, a rest length from 0 to 16
abbrev pub IsStiffness : ℤ → Type 0
IsStiffness k = (pos 0 ≤ℤ k) × (k ≤ℤ MAX_STIFFNESS)

abbrev pub IsRestLength : ℤ → Type 0
IsRestLength r0 = (pos 0 ≤ℤ r0) × (r0 ≤ℤ MAX_REST_LENGTH)
