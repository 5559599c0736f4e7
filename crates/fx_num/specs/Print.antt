-- The texts that numbers are printed as.
use Rattle.std.specs.Prelude.{◌+◌, ◌*◌, ◌/◌, ◌%◌, ◌^◌, ◌==◌, ◌&&◌, cond, length, ℕ, ℤ, pos, negsuc, List, [], ◌∷◌, ◌++◌, drop, unsigned_abs}
use Rattle.std.specs.Fmt.{decimal}
use Rattle.fx_num.specs.Rounding.{nearest_of}

-- a `-` before a negative number, also before one that prints as -0.00000006
abbrev pub sign_text : ℤ → List ℕ
sign_text (pos n) = []
sign_text (negsuc n) = 45 ∷ []

-- a number below 10^8 as eight digits, with leading zeros
abbrev pub eight_digits : ℕ → List ℕ
eight_digits n = drop 1 (decimal (10 ^ 8 + n))

-- a number of hundred-millionths: the whole part, a point, eight decimals
abbrev pub eight_decimals : ℕ → List ℕ
eight_decimals n = decimal (n / 10 ^ 8) ++ 46 ∷ eight_digits (n % 10 ^ 8)

-- a number in units of 2^-24, rounded to eight decimals
unfoldable pub fix_text : ℤ → List ℕ
fix_text v = sign_text v ++ eight_decimals (nearest_of (unsigned_abs v * 10 ^ 8) (2 ^ 24))

-- a text without the bytes c at its end
abbrev pub without_last : ℕ → List ℕ → List ℕ
without_last c [] = []
without_last c (x ∷ text) = cond ((x == c) && (length (without_last c text) == 0)) [] (x ∷ without_last c text)

-- a number in units as a formula's value prints: without the zeros at the end, and without a point at the end
unfoldable pub value_text : ℤ → List ℕ
value_text v = without_last 46 (without_last 48 (fix_text v))

-- a quotient of two whole numbers, rounded to eight decimals
unfoldable pub scaled_text : ℕ → ℕ → List ℕ
scaled_text num den = eight_decimals (nearest_of (num * 10 ^ 8) den)
