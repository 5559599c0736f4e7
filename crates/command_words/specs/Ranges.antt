-- Ranges of types and of ids, as words write them.
--
-- A range of types is `n`, `*`, `n*`, `*n` or `m*n`: one type, or all from the first to the last, where a number that is left out
-- stands for the first or the last type there is. A range of ids is `a`, `a:b` or `a:b:c`: one id, all from a to b, or every c-th of them.
use Rattle.std.specs.Prelude.{◌==◌, ◌&&◌, Bool, true, false, not, cond, option_and_then, ℕ, nat_le, Option, Some, None, Result, Ok, Err, List, [], ◌∷◌, take, drop}
use Rattle.std.specs.List.{prefix_len}
use Rattle.box_geo.specs.declared.limits.TheConstants.{MAX_ID, MAX_KINDS}
use Rattle.fx_num.specs.Decimal.{read_count}
use Rattle.fx_num.specs.declared.decimal.NumError.{NumError}
use Rattle.command_words.specs.declared.ranges.KindRange.{KindRange}
use Rattle.command_words.specs.declared.ranges.IdRange.{IdRange}

-- a whole number
abbrev pub is_read : {X : Type 0} → Result X NumError → Bool
is_read (Ok n) = true
is_read (Err e) = false

abbrev pub is_count : List ℕ → Bool
is_count text = is_read (read_count text)

-- the whole number, if it is one from 1 to a limit
abbrev pub within : ℕ → Result ℕ NumError → Option ℕ
within high (Ok n) = cond (nat_le 1 n && nat_le n high) (Some n) None
within high (Err e) = None

abbrev pub count_within : ℕ → List ℕ → Option ℕ
count_within high text = within high (read_count text)

-- a byte that is not this mark; the text before the first mark, and from it on
abbrev pub is_other : ℕ → ℕ → Bool
is_other mark c = not (c == mark)

abbrev pub before : ℕ → List ℕ → List ℕ
before mark text = take (prefix_len (is_other mark) text) text

abbrev pub from : ℕ → List ℕ → List ℕ
from mark text = drop (prefix_len (is_other mark) text) text

-- an end of a range of types is left out or a whole number
abbrev pub is_open : List ℕ → Bool
is_open [] = true
is_open (c ∷ text) = is_count (c ∷ text)

abbrev pub is_kind_range_of : List ℕ → List ℕ → Bool
is_kind_range_of first [] = is_count first
is_kind_range_of first (star ∷ last) = is_open first && is_open last

-- the text of a range of types
abbrev pub is_kind_range : List ℕ → Bool
is_kind_range text = is_kind_range_of (before 42 text) (from 42 text)

-- its first type, and its last one
abbrev pub first_kind : List ℕ → Option ℕ
first_kind [] = Some 1
first_kind (c ∷ text) = count_within MAX_KINDS (c ∷ text)

abbrev pub last_kind : List ℕ → Option (Option ℕ)
last_kind [] = Some None
last_kind (c ∷ text) = option_and_then (λ n. Some (Some n)) (count_within MAX_KINDS (c ∷ text))

abbrev pub kind_range_of : List ℕ → List ℕ → Option KindRange
kind_range_of first [] = option_and_then (λ n. Some record { first = n; last = Some n }) (count_within MAX_KINDS first)
kind_range_of first (star ∷ last) =
    option_and_then (λ a. option_and_then (λ b. Some record { first = a; last = b }) (last_kind last)) (first_kind first)

-- the range of types that a text writes, if its numbers are within the limits
abbrev pub kind_range : List ℕ → Option KindRange
kind_range text = kind_range_of (before 42 text) (from 42 text)

-- the text of a range of ids
abbrev pub is_id_tail_of : List ℕ → List ℕ → Bool
is_id_tail_of last [] = is_count last
is_id_tail_of last (colon ∷ stride) = is_count last && is_count stride

abbrev pub is_id_tail : List ℕ → Bool
is_id_tail text = is_id_tail_of (before 58 text) (from 58 text)

abbrev pub is_id_range_of : List ℕ → List ℕ → Bool
is_id_range_of first [] = is_count first
is_id_range_of first (colon ∷ tail) = is_count first && is_id_tail tail

abbrev pub is_id_range : List ℕ → Bool
is_id_range text = is_id_range_of (before 58 text) (from 58 text)

-- the range of ids that a text writes, if its numbers are within the limits
abbrev pub id_tail_of : ℕ → List ℕ → List ℕ → Option IdRange
id_tail_of first last [] = option_and_then (λ b. Some record { first = first; last = b; stride = 1 }) (count_within MAX_ID last)
id_tail_of first last (colon ∷ stride) =
    option_and_then (λ b. option_and_then (λ c. Some record { first = first; last = b; stride = c }) (count_within MAX_ID stride)) (count_within MAX_ID last)

abbrev pub id_tail : ℕ → List ℕ → Option IdRange
id_tail first text = id_tail_of first (before 58 text) (from 58 text)

abbrev pub id_range_from : ℕ → List ℕ → Option IdRange
id_range_from first [] = Some record { first = first; last = first; stride = 1 }
id_range_from first (colon ∷ tail) = id_tail first tail

abbrev pub id_range : List ℕ → Option IdRange
id_range text = option_and_then (λ a. id_range_from a (from 58 text)) (count_within MAX_ID (before 58 text))
