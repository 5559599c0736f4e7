-- What words say: texts, numbers within limits, the values of options; and what it is to make a command of them.
use Rattle.std.specs.Prelude.{◌≡◌, ◌≢◌, ◌&&◌, ◌-◌, Bool, cond, option_and_then, ℕ, ℤ, neg_ℤ, int_le, nat_le, Option, Some, None, Result, Ok, Err, IfOk, IfErr, List, [], ◌∷◌, length, drop}
use Rattle.std.specs.Str.{bytes_eq}
use Rattle.fx_num.specs.Decimal.{read_count, read_number}
use Rattle.fx_num.specs.declared.decimal.NumError.{NumError}
use Rattle.fx_num.specs.declared.decimal.TheConstants.{MAX_UNITS}
use Rattle.command_words.specs.Ranges.{kind_range}
use Rattle.command_words.specs.Vocabulary.{is_among, text_of}
use Rattle.command_words.specs.declared.ranges.KindRange.{KindRange}
use Rattle.command_words.specs.declared.refusal.WordRefusal.{WordRefusal}
use Rattle.command_words.specs.declared.refusal.WordRefusal.TheVariants.{BadValue, NoMemory}
use Rattle.command_words.specs.declared.values.TheConstants.{MAX_WHOLE}
use Rattle.command_words.specs.declared.vocabulary.Word.{Word}
use Rattle.command_words.specs.declared.vocabulary.Words.{Words}

-- the text of a word; empty where there is none
abbrev pub first_word : List (List ℕ) → List ℕ
first_word [] = []
first_word (w ∷ words) = w

abbrev pub word : ℕ → List (List ℕ) → List ℕ
word place words = first_word (drop place words)

abbrev pub is_word : Word → ℕ → List (List ℕ) → Bool
is_word wanted place words = bytes_eq (word place words) (text_of wanted)

-- one thing that may be refused, and then another that uses it
abbrev pub then : {X Y : Type 0} → Result X WordRefusal → (X → Result Y WordRefusal) → Result Y WordRefusal
then (Ok x) next = next x
then (Err why) next = Err why

-- a number that is read is within its limits, or a bad value at its place
abbrev pub is_between : ℤ → ℤ → ℤ → Bool
is_between low high v = int_le low v && int_le v high

abbrev pub number_at : ℕ → ℤ → ℤ → Result ℤ NumError → Result ℤ WordRefusal
number_at place low high (Ok v) = cond (is_between low high v) (Ok v) (Err (BadValue place))
number_at place low high (Err e) = Err (BadValue place)

-- the number of a word in units, from low to high
abbrev pub number : ℕ → ℤ → ℤ → List (List ℕ) → Result ℤ WordRefusal
number place low high words = number_at place low high (read_number (word place words))

-- the same, or none for one of some words
abbrev pub given : {X : Type 0} → Result X WordRefusal → Result (Option X) WordRefusal
given (Ok x) = Ok (Some x)
given (Err why) = Err why

abbrev pub number_or : Words → ℕ → ℤ → ℤ → List (List ℕ) → Result (Option ℤ) WordRefusal
number_or instead place low high words = cond (is_among instead (word place words)) (Ok None) (given (number place low high words))

-- any number that is in range
abbrev pub any_number : ℕ → List (List ℕ) → Result ℤ WordRefusal
any_number place words = number place (neg_ℤ MAX_UNITS) MAX_UNITS words

-- the whole number of a word, from low to high
abbrev pub whole_at : ℕ → ℕ → ℕ → Result ℕ NumError → Result ℕ WordRefusal
whole_at place low high (Ok n) = cond (nat_le low n && nat_le n high) (Ok n) (Err (BadValue place))
whole_at place low high (Err e) = Err (BadValue place)

abbrev pub whole : ℕ → ℕ → ℕ → List (List ℕ) → Result ℕ WordRefusal
whole place low high words = whole_at place low high (read_count (word place words))

-- any whole number
abbrev pub count : ℕ → List (List ℕ) → Result ℕ WordRefusal
count place words = whole place 0 MAX_WHOLE words

-- the types that a word writes
abbrev pub kinds_at : ℕ → Option KindRange → Result KindRange WordRefusal
kinds_at place (Some range) = Ok range
kinds_at place None = Err (BadValue place)

abbrev pub kinds : ℕ → List (List ℕ) → Result KindRange WordRefusal
kinds place words = kinds_at place (kind_range (word place words))

-- the place of an option's value among n words, of which these are left; of an option given twice the last one counts
abbrev pub latest : Option ℕ → ℕ → Word → List ℕ → Option ℕ
latest found place option text = cond (bytes_eq text (text_of option)) (Some place) found

abbrev pub last_place : Word → ℕ → Option ℕ → List (List ℕ) → Option ℕ
last_place option n found [] = found
last_place option n found (key ∷ []) = found
last_place option n found (key ∷ value ∷ words) =
    last_place option n (latest found (n - length (value ∷ words)) option key) words

abbrev pub value_place : Word → ℕ → List (List ℕ) → Option ℕ
value_place option from words = last_place option (length words) None (drop from words)

-- an option has this value, if it is given
abbrev pub says : Word → Word → ℕ → List (List ℕ) → Option Bool
says option value from words = option_and_then (λ place. Some (is_word value place words)) (value_place option from words)

-- a call makes what is wanted of the words, or refuses for that reason; only want of memory may come between
pub record Makes {X : Type 0} (wanted result : Result X WordRefusal) : Type 0 where
  pub made : IfOk result (λ x. wanted ≡ Ok x)
  pub refused : IfErr result (λ why. why ≢ NoMemory → wanted ≡ Err why)
