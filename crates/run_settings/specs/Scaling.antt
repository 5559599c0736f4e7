-- Lengths, vectors, sides and regions, where none of their lengths is beyond the greatest.
use Rattle.std.specs.Prelude.{◌≤ℤ◌, cond, nat_lt, pos, unsigned_abs, ℕ, ℤ, Option, Some, None, List}
use Rattle.box_geo.specs.Sides.{x_of, y_of, z_of}
use Rattle.meaning.specs.Lattice.{are_long_sides, is_long, is_long_region, is_long_side, is_long_vector}
use Rattle.regions_groups.specs.declared.shapes.Region.{Region}

-- a number whose magnitude is not above a bound
abbrev pub unless_above : ℕ → ℤ → Option ℤ
unless_above most x = cond (nat_lt most (unsigned_abs x)) None (Some x)

abbrev pub unless_long_length : ℤ → Option ℤ
unless_long_length v = cond (is_long v) None (Some v)

abbrev pub unless_long_vector : List ℤ → Option (List ℤ)
unless_long_vector v = cond (is_long_vector v) None (Some v)

abbrev pub unless_long_side : Option ℤ → Option (Option ℤ)
unless_long_side side = cond (is_long_side side) None (Some side)

abbrev pub unless_long_sides : List (Option ℤ) → Option (List (Option ℤ))
unless_long_sides sides = cond (are_long_sides sides) None (Some sides)

abbrev pub unless_long : Region → Option Region
unless_long region = cond (is_long_region region) None (Some region)

-- no component is below 0
pub record AreLengths (v : List ℤ) : Type 0 where
  pub x : pos 0 ≤ℤ x_of v
  pub y : pos 0 ≤ℤ y_of v
  pub z : pos 0 ≤ℤ z_of v
