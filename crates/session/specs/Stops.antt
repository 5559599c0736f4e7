-- Why a script does not go on at a line, against what is meant.
use Rattle.std.specs.Prelude.{◌≡◌, ◌+◌, ◌<◌, ◌≤◌, IfOk, IfErr, OnOk, IfNone, ℕ, Option, Some, None, Result, Ok, Err, List}
use Rattle.box_geo.specs.declared.limits.TheConstants.{MAX_LINES}
use Rattle.control_flow.specs.declared.refusals.FlowRefusal.{FlowRefusal}
use Rattle.control_flow.specs.declared.refusals.FlowRefusal.TheVariants as flow
use Rattle.control_flow.specs.Flow.{FlowState}
use Rattle.meaning.specs.declared.code.Code.{Code}
use Rattle.meaning.specs.declared.code.Code.TheVariants as code
use Rattle.meaning.specs.declared.going.Going.{Going}
use Rattle.meaning.specs.declared.progress.Progress.{Progress}
use Rattle.meaning.specs.declared.refusal.Refusal.{Refusal}
use Rattle.meaning.specs.declared.refusal.Refusal.TheVariants as why
use Rattle.meaning.specs.declared.settings.Settings.{Settings}
use Rattle.meaning.specs.Causes.{Outside, Rests, Stays}
use Rattle.meaning.specs.Flow.{Fetch, Moved, flow_way, goes_to}
use Rattle.meaning.specs.Outcome.{Outcome, Way, exceeds, fails, goes, quits, refuses, refuses_at, silent, unbuilt}
use Rattle.meaning.specs.Play.{Line}
use Rattle.meaning.specs.Sends.{EndsWhole, RefusesWith, StoppedBy, way_of}
use Rattle.outside.specs.declared.press.Piece.{Piece}
use Rattle.outside.specs.Sent.{plus, SendsFront}
use Rattle.outside.specs.Stock.{Rose}
use Rattle.script_lines.specs.declared.refusals.LineRefusal.{LineRefusal}
use Rattle.script_lines.specs.declared.refusals.LineRefusal.TheVariants as line
use Rattle.script_lines.specs.declared.words.RawWord.{RawWord}
use Rattle.session.specs.declared.stops.Stop.{Stop}
use Rattle.session.specs.declared.stops.Stop.TheVariants.{Budget, Command, Refused}

abbrev pub unread_stop : List ℕ → LineRefusal → Stop
unread_stop file (line.UnclosedQuote number) = Refused code.UnclosedQuote file number
unread_stop file (line.ContinuationAtEnd number) = Refused code.ContinuationAtEnd file number
unread_stop file (line.QuoteTail number) = Refused code.QuoteTail file number
unread_stop file line.NoMemory = Command why.NoMemory

-- why a script does not go on whose flow does not
abbrev pub stop_of : FlowRefusal → Stop
stop_of (flow.Line file why) = unread_stop file why
stop_of (flow.Budget file number) = Budget file number
stop_of (flow.NoLabel label) = Command (why.Code code.NoLabel)
stop_of flow.IncludeTooDeep = Command (why.Code code.IncludeTooDeep)
stop_of flow.NoMemory = Command why.NoMemory

-- a way on is the one of a stop; a fault or want of memory may come wherever
abbrev pub RefusesBy : Refusal → Way → Type 0
RefusesBy (why.Code code) way = way ≡ refuses code
RefusesBy (why.Range key step) way = ⊥
RefusesBy why.ReadFault way = Unit {0}
RefusesBy why.WriteFault way = ⊥
RefusesBy why.DiskFault way = ⊥
RefusesBy why.NoMemory way = Unit {0}
RefusesBy why.NotBuilt way = way ≡ unbuilt

abbrev pub StopsBy : Stop → Way → Type 0
StopsBy (Command why) way = RefusesBy why way
StopsBy (Refused code file number) way = way ≡ refuses_at code file number
StopsBy (Budget file number) way = way ≡ exceeds file number

-- a flow goes on as is meant, or it is told why not
abbrev pub way_in : {X : Type 0} → Result X FlowRefusal → Way
way_in (Ok x) = goes
way_in (Err why) = flow_way why

abbrev pub Leads : Result FlowState FlowRefusal → Result Unit Stop → FlowState → Type 0
Leads meant (Ok done) new = meant ≡ Ok new
Leads meant (Err stop) new = StopsBy stop (way_in meant)

-- a script's file is fetched, with the settings that are meant; a fault or want of memory may come between
abbrev pub Fetches : Fetch → Result (List ℕ) Refusal → Settings → Type 0
Fetches meant (Ok text) new = (meant.text ≡ Ok text) × (meant.state ≡ new)
Fetches meant (Err (why.Code code)) new = (meant.text ≡ Err code) × (meant.state ≡ new)
Fetches meant (Err (why.Range key step)) new = ⊥
Fetches meant (Err why.ReadFault) new = Unit {0}
Fetches meant (Err why.WriteFault) new = ⊥
Fetches meant (Err why.DiskFault) new = ⊥
Fetches meant (Err why.NoMemory) new = Unit {0}
Fetches meant (Err why.NotBuilt) new = ⊥

-- a command of a line is read, or why there is none
abbrev pub ReadsBy : {X : Type 0} → Result X Way → Result X Refusal → Type 0
ReadsBy meant (Ok x) = meant ≡ Ok x
ReadsBy meant (Err (why.Code code)) = meant ≡ Err (refuses code)
ReadsBy meant (Err (why.Range key step)) = ⊥
ReadsBy meant (Err why.ReadFault) = ⊥
ReadsBy meant (Err why.WriteFault) = ⊥
ReadsBy meant (Err why.DiskFault) = ⊥
ReadsBy meant (Err why.NoMemory) = Unit {0}
ReadsBy meant (Err why.NotBuilt) = meant ≡ Err unbuilt

-- a command that sends nothing leads a script where is meant; or it stops, with the settings that are meant
abbrev pub StopsWith : Stop → Outcome → Settings → Type 0
StopsWith (Command why) meant new = RefusesWith why meant new
StopsWith (Refused code file number) meant new = meant ≡ silent new (refuses_at code file number)
StopsWith (Budget file number) meant new = meant ≡ silent new (exceeds file number)

abbrev pub Turns : Moved → Result Unit Stop → Settings → Progress → Type 0
Turns meant (Ok done) new progress = meant ≡ goes_to new progress
Turns meant (Err stop) new progress = StopsWith stop meant.outcome new

-- a command was carried out as is meant, or the script stops there
abbrev pub StoppedAt : Stop → Outcome → Option (List Piece) → Option (List Piece) → Settings → Type 0
StoppedAt (Command why) meant old new state = StoppedBy why meant old new state
StoppedAt (Refused code file number) meant old new state = EndsWhole (refuses_at code file number) meant old new state
StoppedAt (Budget file number) meant old new state = EndsWhole (exceeds file number) meant old new state

pub record Moves (meant : Moved) (old : Option (List Piece)) (result : Result Going Stop) (new : Option (List Piece)) (state : Settings) (progress : Progress) : Type 0 where
  pub goes_on : IfOk result (λ going. meant.outcome.way ≡ way_of going)
  pub sent : OnOk result (new ≡ plus old meant.outcome.pieces)
  pub after : OnOk result (state ≡ meant.outcome.state)
  pub reached : OnOk result (progress ≡ meant.progress)
  pub stopped : IfErr result (λ stop. StoppedAt stop meant.outcome old new state)

-- the next line of a script is the one that is meant, or the script stops
abbrev pub Reaches : Result (Option Line) Way → Result (Option (List RawWord)) Stop → Progress → Type 0
Reaches meant (Ok (Some words)) new = meant ≡ Ok (Some record { words = words; progress = new })
Reaches meant (Ok None) new = meant ≡ Ok None
Reaches meant (Err (Command (why.Code code))) new = meant ≡ Err (refuses code)
Reaches meant (Err (Command (why.Range key step))) new = ⊥
Reaches meant (Err (Command why.ReadFault)) new = ⊥
Reaches meant (Err (Command why.WriteFault)) new = ⊥
Reaches meant (Err (Command why.DiskFault)) new = ⊥
Reaches meant (Err (Command why.NoMemory)) new = Unit {0}
Reaches meant (Err (Command why.NotBuilt)) new = ⊥
Reaches meant (Err (Refused code file number)) new = meant ≡ Err (refuses_at code file number)
Reaches meant (Err (Budget file number)) new = meant ≡ Err (exceeds file number)

-- a line that is reached is one more of those that a script may run
abbrev pub Advances : FlowState → FlowState → Type 0
Advances old new = (old.count < MAX_LINES) × (new.count ≡ old.count + 1)

-- a stop blames a device only where its count rose. A script that a shelf gave may be too long by the limit of scripts, which no count tells.
abbrev pub ScriptRests : Refusal → Outside → Outside → Type 0
ScriptRests (why.Code told) old new = told ≡ code.NoFile → IfNone old.shelf.stock (Rose old.shelf.absent new.shelf.absent)
ScriptRests why old new = Rests why old new

abbrev pub StopRests : Stop → Outside → Outside → Type 0
StopRests (Command why) old new = ScriptRests why old new
StopRests (Refused told file number) old new = told ≡ code.NoFile → IfNone old.shelf.stock (Rose old.shelf.absent new.shelf.absent)
StopRests (Budget file number) old new = Unit {0}

-- a count of faults stays where the stop does not blame the device
abbrev pub StopStays : {T : Type 0} → Result T Stop → Outside → Outside → Type 0
StopStays {T} (Err (Command why)) old new = Stays {T = T} (Err why) old new
StopStays {T} (Err (Refused code file number)) old new = Stays {T = T} (Err why.NoMemory) old new
StopStays {T} (Err (Budget file number)) old new = Stays {T = T} (Err why.NoMemory) old new
StopStays {T} (Ok x) old new = Stays {T = T} (Ok x) old new

-- at most the terms of pairs that are meant were summed, and just so many where the command was carried out
pub record MovesCounted {T : Type 0} (pairs : ℕ) (old : ℕ) (result : Result T Stop) (new : ℕ) : Type 0 where
  pub few : new ≤ old + pairs
  pub exact : OnOk result (new ≡ old + pairs)

-- a stop, or a refusal of a command, that blames no device and no missing file
pub record IsIdle (stop : Stop) : Type 0 where
  pub rests : (old new : Outside) → StopRests stop old new

abbrev pub IsIdleRefusal : Refusal → Type 0
IsIdleRefusal why = IsIdle (Command why)
