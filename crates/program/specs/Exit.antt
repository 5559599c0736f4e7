-- How the program ends, by the number that it exits with.
use Rattle.std.specs.Prelude.{◌≡◌, true, ℕ, List, [], ◌∷◌, Option}
use Rattle.outside.specs.Sent.{piece_of}
use Rattle.outside.specs.declared.press.Piece.{Piece}
use Rattle.fxlmp_top.specs.Ends.{IsComplete, IsSerialStatus, SendsAll, SendsPart}
use Rattle.outside.specs.declared.press.TheConstants.{SCREEN}
use Rattle.fxlmp_top.specs.Serial.{Run}
use Rattle.session.specs.declared.status.Status.{Status}
use Rattle.session.specs.declared.status.Status.TheVariants.{Done}
use Rattle.session.specs.Ends.{number_of}

-- a call that is to write this run may end so: with its status and all its pieces; or after a fault or without memory, a
-- prefix of them sent, and after a failure of the press the next one cut
pub record MayEnd (status : Status) (old : Option (List Piece)) (run : Run) (new : Option (List Piece)) : Type 0 where
  pub serial : IsSerialStatus status run
  pub whole : SendsAll status old run new
  pub part : SendsPart status old run new

-- the number is that of a status with which such a call may end
pub record ExitsAs (number : ℕ) (old : Option (List Piece)) (run : Run) (new : Option (List Piece)) : Type 0 where
  pub status : Status
  pub number_is : number ≡ number_of status
  pub ends : MayEnd status old run new

-- the number is that of the run's status, all its pieces sent; or memory was wanting
pub record ExitsComplete (number : ℕ) (old : Option (List Piece)) (run : Run) (new : Option (List Piece)) : Type 0 where
  pub status : Status
  pub number_is : number ≡ number_of status
  pub complete : IsComplete status old run new

-- a text in place of a run, as a run: its piece on the screen, and nothing else
abbrev pub printed : List ℕ → Run
printed text = record { pieces = piece_of SCREEN.now true text ∷ []; status = Done; pairs = 0 }
