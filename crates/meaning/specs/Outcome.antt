-- The meaning of a command: one record of what it sends, the state after it, and how the script goes on.
use Rattle.std.specs.Prelude.{ℕ, Result, Ok, Err, List, []}
use Rattle.box_geo.specs.declared.fault.FaultKey.{FaultKey}
use Rattle.meaning.specs.declared.code.Code.{Code}
use Rattle.meaning.specs.declared.settings.Settings.{Settings}
use Rattle.outside.specs.declared.press.Piece.{Piece}

-- how the script goes on: with the next command; or it ends, by `quit`, refused with a code, refused at another line of this file and number, by a line of
-- this file and number that is one more than may be run, by a fault at a step, or by what is not built yet
pub data Way : Type 0 where
  goes : Way
  quits : Way
  refuses : Code → Way
  refuses_at : Code → List ℕ → ℕ → Way
  exceeds : List ℕ → ℕ → Way
  fails : FaultKey → ℕ → Way
  unbuilt : Way

-- the pieces of a command in order, the state after it, the way on, and how many terms of pairs it sums
pub record Outcome : Type 0 where
  pub pieces : List Piece
  pub state : Settings
  pub way : Way
  pub pairs : ℕ

-- a command that sends nothing
abbrev pub silent : Settings → Way → Outcome
silent state way = record { pieces = []; state = state; way = way; pairs = 0 }

abbrev pub done : Settings → Outcome
done new = silent new goes

abbrev pub refused : Settings → Code → Outcome
refused old why = silent old (refuses why)

-- a command that changes the state alone: the state after it, or its code with the state as it was
abbrev pub answered : Settings → Result Settings Code → Outcome
answered old (Ok new) = done new
answered old (Err why) = refused old why
