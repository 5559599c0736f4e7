-- The nearest image along an axis in two steps, of which at most one does anything.
use Rattle.std.proofs.Common.{◌≡◌, cond, true, ℤ, pos, neg_ℤ, ◌+ℤ◌, ◌-ℤ◌, ◌*ℤ◌, ◌<ℤ◌, int_lt, arith}
use Rattle.std.proofs.lemmas.Int.{ints}
use Rattle.box_geo.specs.Sides.{near_along}

abbrev pub lowered_by : ℤ → ℤ → ℤ
lowered_by length d = cond (int_lt length (pos 2 *ℤ d)) (d -ℤ length) d

abbrev pub raised_by : ℤ → ℤ → ℤ
raised_by length d = cond (int_lt (pos 2 *ℤ d) (neg_ℤ length)) (d +ℤ length) d

pub near_along-steps : (length d : ℤ) → pos 0 <ℤ length → raised_by length (lowered_by length d) ≡ near_along true length d
near_along-steps length d some = grind (arith, ints)
