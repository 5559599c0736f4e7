-- What the terms of pairs, bonds and angles share. Lengths and forces are in units of 2^-24.
use Rattle.std.specs.Prelude.{◌^◌, ◌<◌, ◌≤◌, ◌||◌, Bool, nat_lt, ℤ, ◌+ℤ◌, ◌*ℤ◌, unsigned_abs, List}
use Rattle.box_geo.specs.Sides.{x_of, y_of, z_of}

-- a displacement with components of magnitudes below 2^34
abbrev pub IsDisplacement : List ℤ → Type 0
IsDisplacement d = (unsigned_abs (x_of d) < 2 ^ 34) × (unsigned_abs (y_of d) < 2 ^ 34) × (unsigned_abs (z_of d) < 2 ^ 34)

-- the product of two vectors
abbrev pub dot : List ℤ → List ℤ → ℤ
dot a b = x_of a *ℤ x_of b +ℤ y_of a *ℤ y_of b +ℤ z_of a *ℤ z_of b

-- a force with a component of a magnitude above 2^42
abbrev pub is_too_strong : List ℤ → Bool
is_too_strong f = nat_lt (2 ^ 42) (unsigned_abs (x_of f)) || nat_lt (2 ^ 42) (unsigned_abs (y_of f)) || nat_lt (2 ^ 42) (unsigned_abs (z_of f))

-- a force whose components are of magnitudes up to 2^42
abbrev pub IsModerate : List ℤ → Type 0
IsModerate f = (unsigned_abs (x_of f) ≤ 2 ^ 42) × (unsigned_abs (y_of f) ≤ 2 ^ 42) × (unsigned_abs (z_of f) ≤ 2 ^ 42)
