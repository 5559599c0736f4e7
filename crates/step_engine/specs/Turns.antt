-- How far apart two places of an axis are, where a turn leads back to where it began.
use Rattle.std.specs.Prelude.{◌-◌, ◌^◌, Bool, true, false, min, ℕ, ℤ, ◌-ℤ◌, unsigned_abs}

-- how long a turn is along an axis: the edge where it wraps; else longer than any two places are apart, and then none is made
abbrev pub turn_along : Bool → ℤ → ℕ
turn_along true length = unsigned_abs length
turn_along false length = 2 ^ 36

-- how far apart two places of an axis are, the one way or by a turn
abbrev pub apart_along : ℕ → ℤ → ℤ → ℕ
apart_along turn a b = min (unsigned_abs (a -ℤ b)) (turn - unsigned_abs (a -ℤ b))
