-- Rounding to the nearest whole number, ties away from zero.
use Rattle.std.specs.Prelude.{◌+◌, ◌*◌, ◌/◌, ◌^◌, ◌<◌, ◌≤◌, Bool, true, false, ℕ, ℤ, pos, negsuc, suc, neg_ℤ, ◌-ℤ◌, ◌*ℤ◌, unsigned_abs}

-- over magnitudes: q is nearest to n/d, a tie upwards
pub record RoundsTo (n d q : ℕ) : Type 0 where
  pub at_most : 2 * (q * d) ≤ 2 * n + d
  pub at_least : 2 * n < 2 * (q * d) + d

-- q is a whole number nearest to a/b, and of those the one of greatest magnitude
pub record IsNearest (a b q : ℤ) : Type 0 where
  pub near : 2 * unsigned_abs (a -ℤ q *ℤ b) ≤ unsigned_abs b
  pub away : (p : ℤ) → 2 * unsigned_abs (a -ℤ p *ℤ b) ≤ unsigned_abs b → unsigned_abs p ≤ unsigned_abs q

-- the whole number nearest to n/d, a tie upwards, for magnitudes and d above 0
unfoldable pub nearest_of : ℕ → ℕ → ℕ
nearest_of n d = (2 * n + d) / (2 * d)

-- the number of this magnitude, negative where asked
abbrev pub with_sign : Bool → ℕ → ℤ
with_sign true m = neg_ℤ (pos m)
with_sign false m = pos m

-- the whole number nearest to a/b, a tie away from zero, for b above 0
unfoldable pub div_rounded : ℤ → ℤ → ℤ
div_rounded (pos n) b = pos (nearest_of n (unsigned_abs b))
div_rounded (negsuc n) b = neg_ℤ (pos (nearest_of (suc n) (unsigned_abs b)))

-- the whole number nearest to a/2^k, a tie away from zero
abbrev pub shr_rounded : ℤ → ℕ → ℤ
shr_rounded a k = div_rounded a (pos (2 ^ k))
