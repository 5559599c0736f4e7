-- What a change makes of the velocities of a group.
use Rattle.std.specs.Prelude.{◌≤◌, ◌^◌, ◌==◌, ◌&&◌, nat_le, min, cond, Bool, ℕ, ℤ, pos, ◌-ℤ◌, ◌*ℤ◌, unsigned_abs, Option, Some, None, List, [], ◌∷◌, map, slice_index_or}
use Rattle.std.specs.Option.{unwrap_or}
use Rattle.fx_num.specs.Rounding.{shr_rounded}
use Rattle.box_geo.specs.declared.atoms.Atom.{Atom}
use Rattle.box_geo.specs.declared.limits.TheConstants.{MAX_SPEED}
use Rattle.box_geo.specs.Sides.{x_of, y_of, z_of}
use Rattle.computes.specs.Quantities.{IsSlow}
use Rattle.velocity_make.specs.declared.changes.Change.{Change}
use Rattle.velocity_make.specs.declared.changes.Change.TheVariants.{Keep, Scale, Set, Stop, TakeOff}
use Rattle.velocity_make.specs.Group.{factor_of, is_member}

-- a component times a factor in units
abbrev pub scaled_by : ℕ → ℤ → ℤ
scaled_by factor v = shr_rounded (v *ℤ pos factor) 24

-- a component, where one is given
abbrev pub given_or : List (Option ℤ) → ℕ → ℤ → ℤ
given_or given axis v = unwrap_or (slice_index_or given axis None) v

-- the velocity after a change
abbrev pub velocity_after : Change → List ℤ → List ℤ
velocity_after Keep v = v
velocity_after Stop v = pos 0 ∷ pos 0 ∷ pos 0 ∷ []
velocity_after (Scale factor) v = scaled_by factor (x_of v) ∷ scaled_by factor (y_of v) ∷ scaled_by factor (z_of v) ∷ []
velocity_after (TakeOff u) v = (x_of v -ℤ x_of u) ∷ (y_of v -ℤ y_of u) ∷ (z_of v -ℤ z_of u) ∷ []
velocity_after (Set given) v = given_or given 0 (x_of v) ∷ given_or given 1 (y_of v) ∷ given_or given 2 (z_of v) ∷ []

-- an atom with another velocity
abbrev pub with_velocity : Atom → List ℤ → Atom
with_velocity a v = record a { v = v }

-- all of an atom but its velocity
abbrev pub rest_of : Atom → Atom
rest_of a = with_velocity a []

-- the change of an atom, if it is of the group
abbrev pub changed : List ℕ → Change → Atom → Atom
changed ids change a = cond (is_member ids a) (with_velocity a (velocity_after change a.v)) a

abbrev pub changed_all : List ℕ → Change → List Atom → List Atom
changed_all ids change atoms = map (changed ids change) atoms

-- how velocities are scaled to a temperature: all become 0 where nothing is free, and stay where the sum of mass
-- times squared velocity is rounded to 0
unfoldable pub scaling : ℤ → ℤ → ℕ → Change
scaling t s free = cond (free == 0) Stop (cond (unsigned_abs (shr_rounded s 48) == 0) Keep (Scale (factor_of t s free)))

-- whether each component of a velocity is within the limit
abbrev pub is_within : ℤ → Bool
is_within v = nat_le (unsigned_abs v) (unsigned_abs MAX_SPEED)

abbrev pub is_slow : Atom → Bool
is_slow a = is_within (x_of a.v) && is_within (y_of a.v) && is_within (z_of a.v)

-- the lesser of an atom's id and the least so far, if the atom is of the group and too fast
abbrev pub lesser_fast : List ℕ → Option ℕ → Atom → Option ℕ
lesser_fast ids least a = cond (is_member ids a) (cond (is_slow a) least (Some (min (unwrap_or least a.id) a.id))) least

-- the least id of the group's atoms that are too fast, and of the one before them
abbrev pub least_fast : List ℕ → Option ℕ → List Atom → Option ℕ
least_fast ids least [] = least
least_fast ids least (a ∷ atoms) = least_fast ids (lesser_fast ids least a) atoms

-- a change that keeps the numbers of an atom within 64 bits
abbrev pub CanChange : Change → Atom → Type 0
CanChange Keep a = Unit {0}
CanChange Stop a = Unit {0}
CanChange (Scale factor) a = (factor ≤ 2 ^ 52) × IsSlow a
CanChange (TakeOff u) a = (unsigned_abs (x_of u) ≤ 2 ^ 32) × (unsigned_abs (y_of u) ≤ 2 ^ 32) × (unsigned_abs (z_of u) ≤ 2 ^ 32) × IsSlow a
CanChange (Set given) a = Unit {0}
