-- How a call ends that is to play a script, against what the script means.
use Rattle.std.specs.Prelude.{◌≡◌, ◌≤◌, ◌+◌, ◌-◌, ◌++◌, ◌⊎◌, ℕ, Option, Result, Ok, Err, List}
use Rattle.box_geo.specs.declared.limits.TheConstants.{MAX_LINES}
use Rattle.control_flow.specs.Flow.{FlowState}
use Rattle.meaning.specs.declared.code.Code.{Code}
use Rattle.meaning.specs.declared.output.Output.{Output}
use Rattle.meaning.specs.declared.refusal.Refusal.{Refusal}
use Rattle.meaning.specs.declared.refusal.Refusal.TheVariants as why
use Rattle.meaning.specs.Causes.{Outside, ReadsStay, Rests, SavesStay, WritesStay}
use Rattle.meaning.specs.Play.{End, Played, budget_at, complete, ends_telling, ends_with, failed_at, refused_at, refused_line, unbuilt_at}
use Rattle.log_output.specs.Errors.{budget_text, fault_text}
use Rattle.outside.specs.declared.press.Piece.{Piece}
use Rattle.outside.specs.Sent.{plus, SendsCut, SendsFront}
use Rattle.outside.specs.Stock.{Rose}
use Rattle.session.specs.declared.status.Status.{Status}
use Rattle.session.specs.declared.stops.Stop.{Stop}
use Rattle.session.specs.declared.stops.Stop.TheVariants as stop
use Rattle.session.specs.Stops.{ScriptRests}
use Rattle.session.specs.declared.status.Status.TheVariants.{Budget, Done, ScriptRefused, RangeFault, ReadFault, WriteFault, DiskFault, NoMemory, Usage, NotBuilt}

-- a fetch gets this text, or answers why there is none; a fault or want of memory may come between
abbrev pub GetsFile : Result (List ℕ) Code → Result (List ℕ) Refusal → Type 0
GetsFile meant (Ok text) = meant ≡ Ok text
GetsFile meant (Err (why.Code code)) = meant ≡ Err code
GetsFile meant (Err why.ReadFault) = Unit {0}
GetsFile meant (Err why.NoMemory) = Unit {0}
GetsFile meant (Err _) = ⊥

-- the status of a script's end
abbrev pub status_of : End → Status
status_of complete = Done
status_of (refused_at code file line) = ScriptRefused code file line
status_of (budget_at file line) = Budget file line
status_of (failed_at key step) = RangeFault key step
status_of (unbuilt_at file line) = NotBuilt file line

-- a call that is to send pieces and to answer a status ends so: with that status and all pieces, or with a prefix of them after a fault or without memory
abbrev pub EndsWith : Status → Option (List Piece) → List Piece → Status → Option (List Piece) → Type 0
EndsWith ReadFault old pieces meant new = SendsFront old pieces new
EndsWith DiskFault old pieces meant new = SendsFront old pieces new
EndsWith NoMemory old pieces meant new = SendsFront old pieces new
EndsWith WriteFault old pieces meant new = SendsCut old pieces new
EndsWith status old pieces meant new = (meant ≡ status) × (new ≡ plus old pieces)

-- so does a call that is to play a script
abbrev pub EndsAs : Status → Option (List Piece) → Played → Option (List Piece) → Type 0
EndsAs status old meant new = EndsWith status old meant.pieces (status_of meant.end) new

-- how a script ends at a line whose command was not carried out: behind the line of the error; after a fault or without memory at once
abbrev pub EndsLine : Refusal → Output → List ℕ → ℕ → Status → Option (List Piece) → Option (List Piece) → Type 0
EndsLine (why.Code code) o file line status old new = EndsAs status old (refused_line o file line code) new
EndsLine (why.Range key step) o file line status old new = EndsAs status old (ends_telling o (fault_text key step) (failed_at key step)) new
EndsLine why.NotBuilt o file line status old new = EndsAs status old (ends_with (unbuilt_at file line)) new
EndsLine why.ReadFault o file line status old new = (status ≡ ReadFault) × (new ≡ old)
EndsLine why.WriteFault o file line status old new = (status ≡ WriteFault) × (new ≡ old)
EndsLine why.DiskFault o file line status old new = (status ≡ DiskFault) × (new ≡ old)
EndsLine why.NoMemory o file line status old new = (status ≡ NoMemory) × (new ≡ old)

-- so does one whose line, or another that is read for it, ends it
abbrev pub EndsStop : Stop → Output → List ℕ → ℕ → Status → Option (List Piece) → Option (List Piece) → Type 0
EndsStop (stop.Command why) o file line status old new = EndsLine why o file line status old new
EndsStop (stop.Refused code other number) o file line status old new = EndsAs status old (refused_line o other number code) new
EndsStop (stop.Budget other number) o file line status old new = EndsAs status old (ends_telling o (budget_text other number) (budget_at other number)) new

-- the status of a line whose command was not carried out, and of one behind which a script does not go on
abbrev pub line_status : Refusal → List ℕ → ℕ → Status
line_status (why.Code code) file line = ScriptRefused code file line
line_status (why.Range key step) file line = RangeFault key step
line_status why.ReadFault file line = ReadFault
line_status why.WriteFault file line = WriteFault
line_status why.DiskFault file line = DiskFault
line_status why.NoMemory file line = NoMemory
line_status why.NotBuilt file line = NotBuilt file line

abbrev pub stop_status : Stop → List ℕ → ℕ → Status
stop_status (stop.Command why) file line = line_status why file line
stop_status (stop.Refused code other number) file line = ScriptRefused code other number
stop_status (stop.Budget other number) file line = Budget other number

-- a status is answered once its line is shown; but the press may fail meanwhile, which its count tells, or memory run out
abbrev pub IsTold : Status → Status → ℕ → ℕ → Type 0
IsTold meant status old new = ((status ≡ meant) × (new ≡ old)) ⊎ (((status ≡ WriteFault) × Rose old new) ⊎ ((status ≡ NoMemory) × (new ≡ old)))

-- the number of a status, with which the program exits
abbrev pub number_of : Status → ℕ
number_of Done = 0
number_of (ScriptRefused code file line) = 1
number_of (RangeFault key step) = 2
number_of ReadFault = 3
number_of WriteFault = 4
number_of DiskFault = 5
number_of NoMemory = 6
number_of (Usage place) = 7
number_of (Budget file line) = 8
number_of (NotBuilt file line) = 9

-- a status blames a device only where its count rose. A script that a shelf gave may be too long by the limit of scripts, which no count tells.
abbrev pub StatusRests : Status → Outside → Outside → Type 0
StatusRests (ScriptRefused code file line) old new = ScriptRests (why.Code code) old new
StatusRests ReadFault old new = Rests why.ReadFault old new
StatusRests WriteFault old new = Rests why.WriteFault old new
StatusRests DiskFault old new = Rests why.DiskFault old new
StatusRests _ old new = Unit {0}

-- a count of faults stays where the status does not blame the device
abbrev pub StatusStays : Status → Outside → Outside → Type 0
StatusStays ReadFault old new = WritesStay old new × SavesStay old new
StatusStays WriteFault old new = ReadsStay old new × SavesStay old new
StatusStays DiskFault old new = ReadsStay old new × WritesStay old new
StatusStays _ old new = ReadsStay old new × (WritesStay old new × SavesStay old new)

-- at most the terms of pairs that are meant were summed, and just so many where the script was run
pub record StatusCounted (pairs : ℕ) (old : ℕ) (status : Status) (new : ℕ) : Type 0 where
  pub few : new ≤ old + pairs
  pub exact : status ≡ Done → new ≡ old + pairs

-- how many lines a script may still come to, of which the last is one too many
abbrev pub lines_left : FlowState → ℕ
lines_left flow = MAX_LINES + 1 - flow.count

-- the first pieces of what a script means were sent, and its first terms summed; the rest is still to come
pub record IsAhead (whole : Played) (old now : Option (List Piece)) (before after : ℕ) (rest : Played) : Type 0 where
  pub sent : List Piece
  pub pairs : ℕ
  pub now_is : now ≡ plus old sent
  pub pieces_are : whole.pieces ≡ sent ++ rest.pieces
  pub end_is : whole.end ≡ rest.end
  pub pairs_are : whole.pairs ≡ pairs + rest.pairs
  pub after_is : after ≡ before + pairs
