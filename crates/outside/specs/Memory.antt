-- The forms of the outside in memory: their state, and what one call of each does.
use Rattle.std.specs.Prelude.{◌≡◌, ◌==◌, ◌+◌, ◌-◌, ◌^◌, ℕ, Bool, true, false, min, List, [], ◌∷◌, ◌++◌, find, Option, None, IsSomeAnd, Result, Ok, Err}
use Rattle.std.specs.List.{list_any}
use Rattle.std.specs.Option.{option_map}
use Rattle.outside.specs.Sent.{cut_piece}
use Rattle.outside.specs.declared.files.File.{File}
use Rattle.outside.specs.declared.memory.Cut.{Cut}
use Rattle.outside.specs.declared.press.Piece.{Piece}
use Rattle.outside.specs.declared.press.PutRefusal.{PutRefusal}
use Rattle.outside.specs.declared.press.PutRefusal.TheVariants as no
use Rattle.outside.specs.declared.shelf.FetchRefusal.{FetchRefusal}
use Rattle.outside.specs.declared.shelf.FetchRefusal.TheVariants.{Missing, TooLong, Faulted, NoMemory}

-- one more, up to the greatest number of 64 bits
abbrev pub next : ℕ → ℕ
next n = min (n + 1) (2 ^ 64 - 1)

-- a shelf in memory: its files, the numbers of the calls that fail, how many calls there were, how many of them
-- failed, and how many met a file that is missing or too long
pub record ShelfState : Type 0 where
  pub files : List File
  pub fail : List ℕ
  pub calls : ℕ
  pub faults : ℕ
  pub absent : ℕ

-- whether the call with this number fails
abbrev pub fails_at : List ℕ → ℕ → Bool
fails_at fail call = list_any (λ n. n == call) fail

-- the shelf after a fetch, by its answer
abbrev pub shelf_after : ShelfState → Result (List ℕ) FetchRefusal → ShelfState
shelf_after shelf (Ok bytes) = record shelf { calls = next shelf.calls }
shelf_after shelf (Err Missing) = record shelf { calls = next shelf.calls; absent = next shelf.absent }
shelf_after shelf (Err (TooLong n)) = record shelf { calls = next shelf.calls; absent = next shelf.absent }
shelf_after shelf (Err Faulted) = record shelf { calls = next shelf.calls; faults = next shelf.faults }
shelf_after shelf (Err NoMemory) = record shelf { calls = next shelf.calls }

-- whether a fetch answered that the shelf failed
abbrev pub is_fault : Result (List ℕ) FetchRefusal → Bool
is_fault (Ok bytes) = false
is_fault (Err Missing) = false
is_fault (Err (TooLong n)) = false
is_fault (Err Faulted) = true
is_fault (Err NoMemory) = false

-- a press in memory: the pieces that it was sent, the calls that are cut off, how many calls there were, and how
-- many of them failed
pub record PressState : Type 0 where
  pub sent : List Piece
  pub fail : List Cut
  pub calls : ℕ
  pub faults : ℕ

-- how many bytes the call with this number keeps, by the first cut of it; none: the call does not fail
abbrev pub kept_at : List Cut → ℕ → Option ℕ
kept_at fail call = option_map (λ c. c.kept) (find (λ c. c.call == call) fail)

-- the press after a put, by its answer: a put that is in the list of cuts fails, and then a front of the piece was
-- sent; any other sends the piece; and where memory is out nothing was sent
abbrev pub Puts : PressState → Piece → Result Unit PutRefusal → PressState → Type 0
Puts press piece (Ok done) new = (kept_at press.fail press.calls ≡ None) × (new ≡ record press { sent = press.sent ++ piece ∷ []; calls = next press.calls })
Puts press piece (Err no.Faulted) new = IsSomeAnd (kept_at press.fail press.calls) (λ kept. new ≡ record press { sent = press.sent ++ cut_piece piece kept ∷ []; calls = next press.calls; faults = next press.faults })
Puts press piece (Err no.NoMemory) new = new ≡ record press { calls = next press.calls }
