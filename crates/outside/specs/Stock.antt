-- What stands on a shelf, and what a fetch answers.
use Rattle.std.specs.Prelude.{◌≡◌, ◌<◌, ◌≤◌, ◌+◌, ◌-◌, ◌^◌, ◌&&◌, ℕ, Bool, true, false, not, min, List, [], ◌∷◌, length, find, nat_le, if◌then◌else◌, Option, Some, None, IsSomeAnd, IsTrue, Result, Ok, Err}
use Rattle.std.specs.List.{list_any}
use Rattle.std.specs.Option.{option_map}
use Rattle.std.specs.Str.{bytes_eq}
use Rattle.outside.specs.declared.shelf.TheConstants.{MAX_FETCHED}
use Rattle.outside.specs.declared.files.File.{File}
use Rattle.outside.specs.declared.shelf.FetchRefusal.{FetchRefusal}
use Rattle.outside.specs.declared.shelf.FetchRefusal.TheVariants.{Missing, TooLong, Faulted, NoMemory}

-- what contracts see of a shelf: what stands on it, or `None` where it does not tell; how often it failed; and how many files were missing or too long
pub record Shelved : Type 0 where
  pub stock : Option (List File)
  pub faults : ℕ
  pub absent : ℕ

-- the bytes under a name; of two files with one name the first counts
abbrev pub content : List File → List ℕ → Option (List ℕ)
content files name = option_map (λ f. f.bytes) (find (λ f. bytes_eq f.name name) files)

-- whether a file has the name
abbrev pub has_name : List File → List ℕ → Bool
has_name files name = list_any (λ f. bytes_eq f.name name) files

-- no two files have one name, as a test
abbrev pub has_distinct_names : List File → Bool
has_distinct_names [] = true
has_distinct_names (f ∷ rest) = not (has_name rest f.name) && has_distinct_names rest

-- no two files have one name
abbrev pub IsDistinctNames : List File → Type 0
IsDistinctNames files = IsTrue (has_distinct_names files)

-- a fetch answers so, where these bytes stand under the name, or none:
-- a file that is there and has at most `MAX_FETCHED` bytes is given, one that is there and has more is too long, else it is missing
abbrev pub Fetches : Option (List ℕ) → Result (List ℕ) FetchRefusal → Type 0
Fetches had (Ok bytes) = (had ≡ Some bytes) × (length bytes ≤ MAX_FETCHED)
Fetches had (Err Missing) = had ≡ None
Fetches had (Err (TooLong n)) = IsSomeAnd had (λ bytes. (length bytes ≡ n) × (MAX_FETCHED < n))
Fetches had (Err Faulted) = Unit {0}
Fetches had (Err NoMemory) = Unit {0}

-- the answer, where neither a fault nor want of memory comes between
abbrev pub answer_of : Option (List ℕ) → Result (List ℕ) FetchRefusal
answer_of None = Err Missing
answer_of (Some bytes) = if nat_le (length bytes) MAX_FETCHED then Ok bytes else Err (TooLong (length bytes))

-- neither a fault nor want of memory came between
abbrev pub IsAnswer : Result (List ℕ) FetchRefusal → Type 0
IsAnswer (Ok bytes) = Unit {0}
IsAnswer (Err Missing) = Unit {0}
IsAnswer (Err (TooLong n)) = Unit {0}
IsAnswer (Err Faulted) = ⊥
IsAnswer (Err NoMemory) = ⊥

-- a length that is told as too long is above the limit
abbrev pub IsAbove : FetchRefusal → Type 0
IsAbove Missing = Unit {0}
IsAbove (TooLong n) = MAX_FETCHED < n
IsAbove Faulted = Unit {0}
IsAbove NoMemory = Unit {0}

-- a count of 64 bits rose; one that stands at its greatest number counts as risen
abbrev pub Rose : ℕ → ℕ → Type 0
Rose before now = min (before + 1) (2 ^ 64 - 1) ≤ now

-- whether a refusal says that the file is missing or too long
abbrev pub is_absence : FetchRefusal → Bool
is_absence Missing = true
is_absence (TooLong n) = true
is_absence Faulted = false
is_absence NoMemory = false
