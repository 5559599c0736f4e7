-- The whole numbers nearest to a square root and to a cube root. No tie occurs, since no such root lies half way between two whole numbers.
use Rattle.std.specs.Prelude.{◌≡◌, ◌+◌, ◌-◌, ◌*◌, ◌/◌, ◌<◌, cond, nat_le, ℕ, zero, suc}

abbrev pub square : ℕ → ℕ
square x = x * x

abbrev pub cube : ℕ → ℕ
cube x = x * x * x

-- q is the whole number nearest to the root of a: 0 for 0, else the root lies between q - 1/2 and q + 1/2
pub record IsNearestRoot (power : ℕ → ℕ) (a q : ℕ) : Type 0 where
  pub of_zero : a ≡ 0 → q ≡ 0
  pub at_least : 0 < a → power (2 * q - 1) < power 2 * a
  pub at_most : 0 < a → power 2 * a < power (2 * q + 1)

-- a root of one binary digit more
abbrev pub with_digit : (ℕ → ℕ) → ℕ → ℕ → ℕ
with_digit power a r = cond (nat_le (power (2 * r + 1)) a) (2 * r + 1) (2 * r)

-- the greatest whole number whose power is at most a, by its binary digits, where there are at least a of them
abbrev pub whole_root : (ℕ → ℕ) → ℕ → ℕ → ℕ
whole_root power digits zero = 0
whole_root power zero (suc n) = 0
whole_root power (suc digits) (suc n) = with_digit power (suc n) (whole_root power digits (suc n / power 2))

-- half of twice the root, rounded
abbrev pub root_of : (ℕ → ℕ) → ℕ → ℕ
root_of power a = (whole_root power (power 2 * a) (power 2 * a) + 1) / 2

-- the whole number nearest to the square root of a
unfoldable pub sqrt_of : ℕ → ℕ
sqrt_of a = root_of square a

-- the whole number nearest to the cube root of a
unfoldable pub cbrt_of : ℕ → ℕ
cbrt_of a = root_of cube a
