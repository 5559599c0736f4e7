-- The decimal texts of formulas. They have no sign.
use Rattle.std.specs.Prelude.{◌==◌, ◌||◌, Bool, true, false, ℕ, ℤ, Result, Ok, Err, Option, Some, None, List, [], ◌∷◌, ◌++◌}
use Rattle.std.specs.Char.{is_ascii_digit}
use Rattle.fx_num.specs.Decimal.{read_number}
use Rattle.fx_num.specs.declared.decimal.NumError.{NumError}
use Rattle.fx_num.specs.declared.decimal.NumError.TheVariants.{NotNumber, TooManyDigits, OutOfRange}

-- the value of a decimal text where it is in range; nothing for a text that is none
abbrev pub literal_from : Result ℤ NumError → Option (Option ℤ)
literal_from (Ok units) = Some (Some units)
literal_from (Err OutOfRange) = Some None
literal_from (Err NotNumber) = None
literal_from (Err TooManyDigits) = None

abbrev pub literal_of : List ℕ → Option (Option ℤ)
literal_of text = literal_from (read_number text)

abbrev pub is_there : Option (Option ℤ) → Bool
is_there (Some value) = true
is_there None = false

-- the first byte of a decimal text
abbrev pub begins_number : ℕ → Bool
begins_number c = is_ascii_digit c || (c == 46)

-- a text with which a decimal text begins: it is one, or it is one with a digit more
abbrev pub is_number_front : List ℕ → Bool
is_number_front text = is_there (literal_of text) || is_there (literal_of (text ++ 48 ∷ []))
