-- What a command that runs does.
use Rattle.std.proofs.Common.{◌≡◌, ℕ, Option, Some, Ok, Err, List, ap, ◌∙◌}
use Rattle.meaning.specs.declared.refusal.Refusal.{Refusal}
use Rattle.meaning.specs.declared.refusal.Refusal.TheVariants.{DiskFault, NoMemory, NotBuilt, Range, ReadFault, WriteFault}
use Rattle.meaning.specs.declared.refusal.Refusal.TheVariants as why
use Rattle.meaning.specs.declared.settings.Body.{Body}
use Rattle.meaning.specs.declared.settings.Settings.{Settings}
use Rattle.meaning.specs.declared.uses.NameUse.{NameUse}
use Rattle.meaning.specs.Runs.{Ran, Snapshot, after_run, ends_as}
use Rattle.meaning.specs.Sends.{Does, StoppedBy}
use Rattle.outside.specs.declared.press.Piece.{Piece}
use Rattle.outside.specs.Sent.{SendsFront}
use Rattle.outside.proofs.Sending.{SendsFront-all}
use Rattle.script_runs.specs.Parts.{Makes, RunStopped, stands}
use Rattle.serial_step.specs.Step.{State}
use Rattle.step_engine.specs.declared.tally.Tally.{Tally}

pub does_done : (s : Settings) (b : Body) (meant : Ran) (old new : Option (List Piece)) (before counted : ℕ) (uses : List NameUse) (state : State) (tally : Tally) (now : Settings) → Makes meant old before (Ok tally) new counted uses state
    → now ≡ ends_as s b (stands state tally) uses → Does {T = Unit {0}} (after_run s b meant) old (Ok tt) new now
does_done s b meant old new before counted uses state tally now h is =
    record {
      goes_on = h.way;
      sent = h.sent;
      after = is ∙ ap (λ (x : Snapshot). ends_as s b x uses) h.end_is ∙ ap (λ (u : List NameUse). ends_as s b meant.end u) h.used;
      stopped = tt;
    }

stops : (why : Refusal) (s : Settings) (b : Body) (meant : Ran) (old new : Option (List Piece)) (uses : List NameUse) (now : Settings) → RunStopped why meant old new uses → now.output ≡ record s.output { uses = uses } → StoppedBy why (after_run s b meant) old new now
stops (why.Code code) s b meant old new uses now h out = absurd h
stops (Range key step) s b meant old new uses now h out =
    record { way = h.way; sent = h.sent; output = out ∙ ap (λ (u : List NameUse). (ends_as s b meant.end u).output) h.used }
stops ReadFault s b meant old new uses now h out = absurd h
stops WriteFault s b meant old new uses now h out = h
stops DiskFault s b meant old new uses now h out = absurd h
stops NoMemory s b meant old new uses now h out = h
stops NotBuilt s b meant old new uses now h out = absurd h

pub does_stopped : (why : Refusal) (s : Settings) (b : Body) (meant : Ran) (old new : Option (List Piece)) (before counted : ℕ) (uses : List NameUse) (state : State) (now : Settings) → Makes meant old before (Err why) new counted uses state → now.output ≡ record s.output { uses = uses } → Does {T = Unit {0}} (after_run s b meant) old (Err why) new now
does_stopped why s b meant old new before counted uses state now h out =
    record { goes_on = tt; sent = tt; after = tt; stopped = stops why s b meant old new uses now h.stopped out }

-- no memory is left once a run was made
all_sent : (s : Settings) (b : Body) (meant : Ran) (old new : Option (List Piece)) (before counted : ℕ) (uses : List NameUse) (state : State) (tally : Tally) (now : Settings) → Makes meant old before (Ok tally) new counted uses state → SendsFront old (after_run s b meant).pieces new
all_sent s b meant old new before counted uses state tally now h = SendsFront-all h.sent

pub does_without : (s : Settings) (b : Body) (meant : Ran) (old new : Option (List Piece)) (before counted : ℕ) (uses : List NameUse) (state : State) (tally : Tally) (now : Settings) → Makes meant old before (Ok tally) new counted uses state → Does {T = Unit {0}} (after_run s b meant) old (Err NoMemory) new now
does_without s b meant old new before counted uses state tally now h =
    record { goes_on = tt; sent = tt; after = tt; stopped = all_sent s b meant old new before counted uses state tally now h }
