-- The texts that numbers are read from.
--
-- A decimal text is an optional sign, digits with at most one point among them and at least one digit, and an optional
-- exponent: `e` or `E`, an optional sign, one to three digits. At most 24 digits count from the first that is not 0 on.
-- Its value is an exact fraction, rounded once to units of 2^-24, a tie away from zero; above 2^62 units it is out of range.
-- A whole number is 1 to 19 digits.
use Rattle.std.specs.Prelude.{◌≡◌, ◌⊎◌, ◌+◌, ◌*◌, ◌^◌, ◌<◌, ◌≤◌, ◌==◌, ◌&&◌, ◌||◌, Bool, true, false, cond, nat_lt, nat_le, ℕ, ℤ, suc, pos, negsuc, Option, Some, None, Result, Ok, Err, List, [], ◌∷◌, ◌++◌, length, take, drop}
use Rattle.std.specs.Char.{is_ascii_digit}
use Rattle.std.specs.List.{prefix_len, AllPass}
use Rattle.std.specs.Str.Parse.{digits_value}
use Rattle.fx_num.specs.Rounding.{nearest_of, with_sign}
use Rattle.fx_num.specs.declared.decimal.NumError.{NumError}
use Rattle.fx_num.specs.declared.decimal.NumError.TheVariants.{NotNumber, TooManyDigits, OutOfRange}

-- a decimal text in its parts
pub record Decimal : Type 0 where
  pub negative : Bool
  pub whole : List ℕ  -- the digits before the point
  pub fraction : List ℕ  -- the digits after it
  pub exponent : ℤ

-- all digits but those of the exponent
abbrev pub digits_of : Decimal → List ℕ
digits_of d = d.whole ++ d.fraction

-- a front of the text, and what follows it
abbrev pub leading_digits : List ℕ → List ℕ
leading_digits text = take (prefix_len is_ascii_digit text) text

abbrev pub after_digits : List ℕ → List ℕ
after_digits text = drop (prefix_len is_ascii_digit text) text

abbrev pub has_minus : List ℕ → Bool
has_minus [] = false
has_minus (c ∷ text) = c == 45

abbrev pub after_sign : List ℕ → List ℕ
after_sign [] = []
after_sign (c ∷ text) = cond ((c == 45) || (c == 43)) text (c ∷ text)

-- the digits behind a point, if there is one, and what follows
abbrev pub fraction_digits : List ℕ → List ℕ
fraction_digits [] = []
fraction_digits (c ∷ text) = cond (c == 46) (leading_digits text) []

abbrev pub after_fraction : List ℕ → List ℕ
after_fraction [] = []
after_fraction (c ∷ text) = cond (c == 46) (after_digits text) (c ∷ text)

-- one to three digits and nothing else
abbrev pub is_exponent_digits : List ℕ → Bool
is_exponent_digits text = (nat_lt 0 (length text)) && (nat_le (length text) 3) && (prefix_len is_ascii_digit text == length text)

-- the exponent that a text is, 0 for no text
abbrev pub exponent_of : List ℕ → Option ℤ
exponent_of [] = Some (pos 0)
exponent_of (c ∷ text) = cond ((c == 101) || (c == 69)) (cond (is_exponent_digits (after_sign text)) (Some (with_sign (has_minus text) (digits_value 10 (after_sign text)))) None) None

-- the parts of a text without its sign
abbrev pub decimal_with : Bool → List ℕ → List ℕ → Option ℤ → Option Decimal
decimal_with negative whole fraction None = None
decimal_with negative whole fraction (Some exponent) =
    cond (length whole + length fraction == 0) None (Some record { negative = negative; whole = whole; fraction = fraction; exponent = exponent })

abbrev pub decimal_unsigned : Bool → List ℕ → Option Decimal
decimal_unsigned negative text =
    decimal_with negative (leading_digits text) (fraction_digits (after_digits text)) (exponent_of (after_fraction (after_digits text)))

-- the parts of a decimal text, if it is one
unfoldable pub decimal_of : List ℕ → Option Decimal
decimal_of text = decimal_unsigned (has_minus text) (after_sign text)

-- a sign that may stand before digits: nothing, `+`, or `-` for a negative number
abbrev pub IsSign : Bool → List ℕ → Type 0
IsSign true sign = sign ≡ 45 ∷ []
IsSign false sign = (sign ≡ []) ⊎ (sign ≡ 43 ∷ [])

-- a point, which may be left out where no digits follow
abbrev pub IsPoint : List ℕ → List ℕ → Type 0
IsPoint fraction point = (point ≡ 46 ∷ []) ⊎ ((point ≡ []) × (fraction ≡ []))

-- an exponent is its letter, an optional sign and one to three digits
pub record WritesExponent (exponent : ℤ) (text : List ℕ) : Type 0 where
  pub letter : ℕ
  pub negative : Bool
  pub sign : List ℕ
  pub digits : List ℕ
  pub is_text : text ≡ letter ∷ (sign ++ digits)
  pub is_letter : (letter ≡ 101) ⊎ (letter ≡ 69)
  pub is_sign : IsSign negative sign
  pub all_digits : AllPass is_ascii_digit digits
  pub some_digit : 0 < length digits
  pub few_digits : length digits ≤ 3
  pub is_value : exponent ≡ with_sign negative (digits_value 10 digits)

-- an exponent, or nothing for 0
abbrev pub IsExponent : ℤ → List ℕ → Type 0
IsExponent exponent text = ((text ≡ []) × (exponent ≡ pos 0)) ⊎ WritesExponent exponent text

-- the form of a decimal text: sign, digits, point, digits, exponent, with at least one digit
pub record IsDecimalText (text : List ℕ) (d : Decimal) : Type 0 where
  pub sign : List ℕ
  pub point : List ℕ
  pub exponent : List ℕ
  pub is_text : text ≡ sign ++ (d.whole ++ (point ++ (d.fraction ++ exponent)))
  pub is_sign : IsSign d.negative sign
  pub whole_digits : AllPass is_ascii_digit d.whole
  pub is_point : IsPoint d.fraction point
  pub fraction_digits : AllPass is_ascii_digit d.fraction
  pub is_exponent : IsExponent d.exponent exponent
  pub some_digit : 0 < length d.whole + length d.fraction

-- how many digits count: those from the first that is not 0 on
abbrev pub significant : List ℕ → ℕ
significant digits = length (drop (prefix_len (λ c. c == 48) digits) digits)

-- a number as a power's exponent above 0, or 0; and below 0, or 0
abbrev pub above_zero : ℤ → ℕ
above_zero (pos n) = n
above_zero (negsuc n) = 0

abbrev pub below_zero : ℤ → ℕ
below_zero (pos n) = 0
below_zero (negsuc n) = suc n

-- the magnitude in units: the digits as a whole number, times 2^24, times the power of ten of the exponent, over that of the decimals, rounded once
unfoldable pub decimal_units : Decimal → ℕ
decimal_units d =
    nearest_of (digits_value 10 (digits_of d) * 2 ^ 24 * 10 ^ above_zero d.exponent) (10 ^ (length d.fraction + below_zero d.exponent))

abbrev pub number_of : Option Decimal → Result ℤ NumError
number_of None = Err NotNumber
number_of (Some d) =
    cond (nat_le (significant (digits_of d)) 24)
    (cond (nat_le (decimal_units d) (2 ^ 62)) (Ok (with_sign d.negative (decimal_units d))) (Err OutOfRange))
    (Err TooManyDigits)

-- what a decimal text reads as, or its first refusal
unfoldable pub read_number : List ℕ → Result ℤ NumError
read_number text = number_of (decimal_of text)

-- what a whole number's text reads as, or its first refusal
unfoldable pub read_count : List ℕ → Result ℕ NumError
read_count text =
    cond ((nat_lt 0 (length text)) && (prefix_len is_ascii_digit text == length text))
    (cond (nat_le (length text) 19) (Ok (digits_value 10 text)) (Err TooManyDigits))
    (Err NotNumber)
