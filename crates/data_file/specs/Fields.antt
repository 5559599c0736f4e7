-- Fields: numbers of words, each within its limits. A word that is no number is a graver fault than a number outside its limits.
use Rattle.std.specs.Prelude.{◌+◌, ◌&&◌, Bool, cond, nat_le, int_le, ℕ, ℤ, unsigned_abs, Result, Ok, Err, List, [], ◌∷◌}
use Rattle.fx_num.specs.Decimal.{after_sign, has_minus, read_count, read_number}
use Rattle.fx_num.specs.Rounding.{with_sign}
use Rattle.fx_num.specs.declared.decimal.NumError.{NumError}
use Rattle.fx_num.specs.declared.decimal.NumError.TheVariants.{NotNumber, TooManyDigits, OutOfRange}
use Rattle.box_geo.specs.declared.limits.TheConstants.{MAX_ID, MAX_IMAGE}
use Rattle.data_file.specs.declared.fault.DataFault.{DataFault}
use Rattle.data_file.specs.declared.fault.DataFault.TheVariants.{Number, Limit}
use Rattle.data_file.specs.Words.{word}

-- a whole number between two limits
abbrev pub whole_with : ℕ → ℕ → Result ℕ NumError → Result ℕ DataFault
whole_with low high (Err why) = Err Number
whole_with low high (Ok n) = cond (nat_le low n && nat_le n high) (Ok n) (Err Limit)

unfoldable pub whole_field : ℕ → ℕ → List ℕ → Result ℕ DataFault
whole_field low high text = whole_with low high (read_count text)

-- a decimal text between two limits
abbrev pub decimal_with : ℤ → ℤ → Result ℤ NumError → Result ℤ DataFault
decimal_with low high (Err NotNumber) = Err Number
decimal_with low high (Err TooManyDigits) = Err Number
decimal_with low high (Err OutOfRange) = Err Limit
decimal_with low high (Ok v) = cond (int_le low v && int_le v high) (Ok v) (Err Limit)

unfoldable pub decimal_field : ℤ → ℤ → List ℕ → Result ℤ DataFault
decimal_field low high text = decimal_with low high (read_number text)

-- an image count: a whole number with an optional sign
abbrev pub image_with : Bool → Result ℕ NumError → Result ℤ DataFault
image_with negative (Err why) = Err Number
image_with negative (Ok n) = cond (nat_le n (unsigned_abs MAX_IMAGE)) (Ok (with_sign negative n)) (Err Limit)

unfoldable pub image_field : List ℕ → Result ℤ DataFault
image_field text = image_with (has_minus text) (read_count (after_sign text))

-- an id, and a type of so many
abbrev pub id_field : List ℕ → Result ℕ DataFault
id_field text = whole_field 1 MAX_ID text

abbrev pub kind_field : ℕ → List ℕ → Result ℕ DataFault
kind_field kinds text = whole_field 1 kinds text

-- the graver of two faults of fields
abbrev pub graver : DataFault → DataFault → DataFault
graver Number g = Number
graver f Number = Number
graver f g = f

-- both values, or the graver fault
abbrev pub both : {A B : Type 0} → Result A DataFault → Result B DataFault → Result (A × B) DataFault
both (Ok a) (Ok b) = Ok (a, b)
both (Ok a) (Err g) = Err g
both (Err f) (Ok b) = Err f
both (Err f) (Err g) = Err (graver f g)

-- a value made of another one
abbrev pub made : {A B : Type 0} → (A → B) → Result A DataFault → Result B DataFault
made f (Ok a) = Ok (f a)
made f (Err why) = Err why

abbrev pub list3 : (ℤ × ℤ) × ℤ → List ℤ
list3 v = v.0.0 ∷ v.0.1 ∷ v.1 ∷ []

-- a vector of three values
abbrev pub vector : Result ℤ DataFault → Result ℤ DataFault → Result ℤ DataFault → Result (List ℤ) DataFault
vector a b c = made list3 (both (both a b) c)

-- the vector of three words from a place on, each component between two limits
unfoldable pub vector_field : ℤ → ℤ → ℕ → List (List ℕ) → Result (List ℤ) DataFault
vector_field low high k words = vector (decimal_field low high (word k words)) (decimal_field low high (word (k + 1) words)) (decimal_field low high (word (k + 2) words))

-- the image counts of three words from a place on
unfoldable pub images_field : ℕ → List (List ℕ) → Result (List ℤ) DataFault
images_field k words = vector (image_field (word k words)) (image_field (word (k + 1) words)) (image_field (word (k + 2) words))
