-- Places of forms: what a place takes from the words of a line, and where a form takes no more.
use Rattle.std.specs.Prelude.{◌==◌, ◌&&◌, ◌||◌, ◌+◌, ◌-◌, ◌%◌, Bool, true, false, cond, ℕ, ℤ, nat_le, nat_lt, Option, Some, None, Result, Ok, Err, List, [], ◌∷◌, length, drop}
use Rattle.std.specs.List.{prefix_len}
use Rattle.std.specs.Str.{bytes_eq}
use Rattle.fx_num.specs.Decimal.{read_count, read_number}
use Rattle.fx_num.specs.declared.decimal.NumError.{NumError}
use Rattle.fx_num.specs.declared.decimal.NumError.TheVariants.{NotNumber, TooManyDigits, OutOfRange}
use Rattle.command_words.specs.Branches.{stuck_branches}
use Rattle.names.specs.Names.{is_compute, is_file_name, is_id}
use Rattle.command_words.specs.Options.{choices_in, kind_of_option}
use Rattle.command_words.specs.Ranges.{is_count, is_id_range, is_kind_range}
use Rattle.command_words.specs.Vocabulary.{is_among, text_of}
use Rattle.command_words.specs.declared.options.Choice.{Choice}
use Rattle.command_words.specs.declared.places.Kind.{Kind}
use Rattle.command_words.specs.declared.places.Kind.TheVariants as kind
use Rattle.command_words.specs.declared.places.Place.{Place}
use Rattle.command_words.specs.declared.places.Place.TheVariants as place

-- a decimal text, also one that is out of range
abbrev pub is_decimal : Result ℤ NumError → Bool
is_decimal (Ok v) = true
is_decimal (Err OutOfRange) = true
is_decimal (Err NotNumber) = false
is_decimal (Err TooManyDigits) = false

abbrev pub is_number : List ℕ → Bool
is_number text = is_decimal (read_number text)

-- a word may be this text
abbrev pub takes : Kind → List ℕ → Bool
takes (kind.Fixed word) text = bytes_eq (text_of word) text
takes (kind.OneOf words) text = is_among words text
takes kind.Name text = is_id text
takes kind.File text = is_file_name text
takes kind.Compute text = is_compute text
takes (kind.ComputeOr words) text = is_among words text || is_compute text
takes kind.Number text = is_number text
takes (kind.NumberOr words) text = is_among words text || is_number text
takes kind.Whole text = is_count text
takes (kind.WholeOr words) text = is_among words text || is_count text
takes kind.Kinds text = is_kind_range text
takes kind.Ids text = is_id_range text
takes kind.Any text = true

-- a number from 1 on that tells how many words follow
abbrev pub from_one : Result ℕ NumError → Option ℕ
from_one (Ok n) = cond (nat_le 1 n) (Some n) None
from_one (Err e) = None

abbrev pub count_of : List ℕ → Option ℕ
count_of text = from_one (read_count text)

-- What is left behind the words that a place takes, or how many words are left where it takes no more.

-- so many words of a kind, of which the first m are there
abbrev pub left_by_count : ℕ → Kind → List (List ℕ) → Result (List (List ℕ)) ℕ
left_by_count n k words =
    cond (nat_le n (prefix_len (takes k) words)) (Ok (drop n words)) (Err (length words - prefix_len (takes k) words))

abbrev pub left_by_counted : Option ℕ → Kind → List (List ℕ) → Result (List (List ℕ)) ℕ
left_by_counted None k words = Err (length words + 1)
left_by_counted (Some n) k words = left_by_count n k words

-- options in pairs: an option's word, and its value
abbrev pub stuck_key : Option Kind → Option ℕ
stuck_key None = Some 1
stuck_key (Some k) = Some 0

abbrev pub stuck_pair : Option Kind → List ℕ → List (List ℕ) → Option ℕ → Option ℕ
stuck_pair None value words next = Some (length words + 2)
stuck_pair (Some k) value words next = cond (takes k value) next (Some (length words + 1))

abbrev pub stuck_options : List Choice → List (List ℕ) → Option ℕ
stuck_options cs [] = None
stuck_options cs (key ∷ []) = stuck_key (kind_of_option cs key)
stuck_options cs (key ∷ value ∷ words) = stuck_pair (kind_of_option cs key) value words (stuck_options cs words)

-- all words, or none of them
abbrev pub none_left : Option ℕ → Result (List (List ℕ)) ℕ
none_left None = Ok []
none_left (Some n) = Err n

abbrev pub left_by : Place → List (List ℕ) → Result (List (List ℕ)) ℕ
left_by (place.One k) [] = Err 0
left_by (place.One k) (word ∷ words) = cond (takes k word) (Ok words) (Err (length words + 1))
left_by (place.Many k) words =
    cond (prefix_len (takes k) words == 0) (Err (length words)) (Ok (drop (prefix_len (takes k) words) words))
left_by (place.Counted k) [] = Err 0
left_by (place.Counted k) (number ∷ words) = left_by_counted (count_of number) k words
left_by place.Rest words = Ok []
left_by place.Branches words = none_left (stuck_branches words)
left_by (place.Options o) words = none_left (stuck_options (choices_in o) words)
left_by (place.SomeOptions o) [] = Err 0
left_by (place.SomeOptions o) (word ∷ words) = none_left (stuck_options (choices_in o) (word ∷ words))

-- how many words are left where a form takes no more: none where it takes all and none is missing
abbrev pub behind : (List (List ℕ) → Option ℕ) → Result (List (List ℕ)) ℕ → Option ℕ
behind next (Ok words) = next words
behind next (Err n) = Some n

abbrev pub stuck : List Place → List (List ℕ) → Option ℕ
stuck [] [] = None
stuck [] (word ∷ words) = Some (length words + 1)
stuck (p ∷ places) words = behind (stuck places) (left_by p words)

-- a form has words of this number; a repeated place takes any number of words, and options, which stand last, come in pairs
abbrev pub has_count : List Place → ℕ → Bool
has_count [] n = n == 0
has_count (place.One k ∷ places) n = nat_lt 0 n && has_count places (n - 1)
has_count (place.Many k ∷ places) n = nat_le 1 n
has_count (place.Counted k ∷ places) n = nat_le 2 n
has_count (place.Rest ∷ places) n = true
has_count (place.Branches ∷ places) n = nat_le 3 n
has_count (place.Options o ∷ places) n = n % 2 == 0
has_count (place.SomeOptions o ∷ places) n = nat_le 2 n && (n % 2 == 0)
