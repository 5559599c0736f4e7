-- A command of a script, by the call that carries it out.
use Rattle.std.proofs.Common.{◌≡◌, ◌∙◌, ◌≤◌, ◌+◌, ◌++◌, ℕ, Option, List, [], Result, Ok, Err, IfErr, OnOk, refl, sym, ap, subst, arith}
use Rattle.command_words.specs.declared.command.Command.{Command}
use Rattle.command_words.specs.declared.command.Command.TheVariants as command
use Rattle.command_words.specs.declared.flow.Choice.{Choice}
use Rattle.command_words.specs.declared.flow.Jump.{Jump}
use Rattle.meaning.specs.declared.code.Code.TheVariants as code
use Rattle.meaning.specs.declared.going.Going.{Going}
use Rattle.meaning.specs.declared.progress.Progress.{Progress}
use Rattle.meaning.specs.declared.refusal.Refusal.{Refusal}
use Rattle.meaning.specs.declared.refusal.Refusal.TheVariants as why
use Rattle.meaning.specs.declared.settings.Settings.{Settings}
use Rattle.meaning.specs.Answers.{is_absence}
use Rattle.meaning.specs.Causes.{Counted, Outside, Rests, Stays}
use Rattle.meaning.specs.Commands.{outcome_of}
use Rattle.meaning.specs.Flow.{Moved, goes_to, moved, stays, stops}
use Rattle.meaning.specs.Lines.{line_moved, moved_by}
use Rattle.meaning.specs.Outcome.{Outcome, Way, exceeds, refuses, refuses_at, silent}
use Rattle.meaning.specs.Sends.{EndsWhole, Executes, RefusesWith, StoppedBy}
use Rattle.outside.specs.declared.files.File.{File}
use Rattle.outside.specs.declared.press.Piece.{Piece}
use Rattle.outside.specs.Sent.{plus}
use Rattle.outside.proofs.Sending.{plus-nil, SendsFront-none}
use Rattle.session.specs.declared.stops.Stop.{Stop}
use Rattle.session.specs.declared.stops.Stop.TheVariants as stop
use Rattle.session.specs.Refusals.{led_of}
use Rattle.session.specs.Stops.{IsIdle, Moves, MovesCounted, ReadsBy, ScriptRests, StopRests, StopStays, StoppedAt, StopsWith, Turns}
use Rattle.session.proofs.ExecuteLemmas.{stops_silent}

-- a stop of a command that sends nothing
whole_silent : (meant : Outcome) (way : Way) (sent : Option (List Piece)) (new : Settings) → meant ≡ silent new way → EndsWhole way meant sent sent new
whole_silent meant way sent new h =
    record { way = ap (λ (o : Outcome). o.way) h; sent = sym (plus-nil sent) ∙ ap (λ (ps : List Piece). plus sent ps) (sym (ap (λ (o : Outcome). o.pieces) h)); state_is = sym (ap (λ (o : Outcome). o.state) h) }

stop_silent : (s : Stop) (meant : Outcome) (sent : Option (List Piece)) (new : Settings) → StopsWith s meant new → StoppedAt s meant sent sent new
stop_silent (stop.Command r) meant sent new h = stops_silent r meant sent new h
stop_silent (stop.Refused told file number) meant sent new h = whole_silent meant (refuses_at told file number) sent new h
stop_silent (stop.Budget file number) meant sent new h = whole_silent meant (exceeds file number) sent new h

-- a command that leads elsewhere
pub turns_moves : (meant : Moved) (r : Result Unit Stop) (sent : Option (List Piece)) (new : Settings) (p : Progress) → Turns meant r new p → Moves meant sent (led_of r) sent new p
turns_moves meant (Ok done) sent new p h =
    record {
      goes_on = ap (λ (m : Moved). m.outcome.way) h;
      sent = sym (plus-nil sent) ∙ ap (λ (ps : List Piece). plus sent ps) (sym (ap (λ (m : Moved). m.outcome.pieces) h));
      after = sym (ap (λ (m : Moved). m.outcome.state) h);
      reached = sym (ap (λ (m : Moved). m.progress) h);
      stopped = tt;
    }
turns_moves meant (Err s) sent new p h = record { goes_on = tt; sent = tt; after = tt; reached = tt; stopped = stop_silent s meant.outcome sent new h }

pub led_rests : (r : Result Unit Stop) (old new : Outside) → IfErr r (λ s. StopRests s old new) → IfErr (led_of r) (λ s. StopRests s old new)
led_rests (Ok done) old new h = tt
led_rests (Err s) old new h = h

-- a command that is carried out by itself
pub executed_moves : (o : Outcome) (p : Progress) (going : Going) (old new : Option (List Piece)) (s : Settings) → Executes o old (Ok going) new s → Moves (stays p o) old (Ok going) new s p
executed_moves o p going old new s h = record { goes_on = h.goes_on; sent = h.sent; after = h.after; reached = refl; stopped = tt }

pub stopped_moves : (o : Outcome) (p : Progress) (r : Refusal) (old new : Option (List Piece)) (s : Settings) → Executes o old (Err r) new s → Moves (stays p o) old (Err (stop.Command r)) new s p
stopped_moves o p r old new s h = record { goes_on = tt; sent = tt; after = tt; reached = tt; stopped = h.stopped }

-- a line whose command can't be read
pub unread_moves : (files : List File) (s : Settings) (p : Progress) (meant : Result Command Way) (r : Refusal) (sent : Option (List Piece)) → ReadsBy meant (Err r) → Moves (moved_by files s p meant) sent (Err (stop.Command r)) sent s p
unread_moves files s p meant (why.Code told) sent h = record { goes_on = tt; sent = tt; after = tt; reached = tt; stopped = stops_silent (why.Code told) (moved_by files s p meant).outcome sent s (ap (λ (m : Result Command Way). (moved_by files s p m).outcome) h) }
unread_moves files s p meant (why.Range key step) sent h = absurd h
unread_moves files s p meant why.ReadFault sent h = absurd h
unread_moves files s p meant why.WriteFault sent h = absurd h
unread_moves files s p meant why.DiskFault sent h = absurd h
unread_moves files s p meant why.NoMemory sent h = record { goes_on = tt; sent = tt; after = tt; reached = tt; stopped = SendsFront-none sent (moved_by files s p meant).outcome.pieces }
unread_moves files s p meant why.NotBuilt sent h = record { goes_on = tt; sent = tt; after = tt; reached = tt; stopped = stops_silent why.NotBuilt (moved_by files s p meant).outcome sent s (ap (λ (m : Result Command Way). (moved_by files s p m).outcome) h) }

-- a command that doesn't lead elsewhere
pub record IsPlain (k : Command) : Type 0 where
  pub next_not : (x : List (List ℕ)) → k ≡ command.Next x → ⊥
  pub label_not : (x : List ℕ) → k ≡ command.Label x → ⊥
  pub jump_not : (x : Jump) → k ≡ command.Jump x → ⊥
  pub include_not : (x : List ℕ) → k ≡ command.Include x → ⊥
  pub if_not : (x : Choice) → k ≡ command.If x → ⊥

pub moved_plain : (files : List File) (k : Command) (s : Settings) (p : Progress) → IsPlain k → moved files k s p ≡ stays p (outcome_of files k s)
moved_plain files (command.Next x) s p h = absurd (h.next_not x refl)
moved_plain files (command.Label x) s p h = absurd (h.label_not x refl)
moved_plain files (command.Jump x) s p h = absurd (h.jump_not x refl)
moved_plain files (command.Include x) s p h = absurd (h.include_not x refl)
moved_plain files (command.If x) s p h = absurd (h.if_not x refl)
moved_plain files k s p h = refl

pub executed_counted : {pairs old new : ℕ} {going : Going} → Counted {T = Going} pairs old (Ok going) new → MovesCounted {T = Going} pairs old (Ok going) new
executed_counted {pairs} {old} {new} {going} h = record { few = h.few; exact = h.exact }

pub stopped_counted : {pairs old new : ℕ} {r : Refusal} → Counted {T = Going} pairs old (Err r) new → MovesCounted {T = Going} pairs old (Err (stop.Command r)) new
stopped_counted {pairs} {old} {new} {r} h = record { few = h.few; exact = tt }

-- a cause of a command is one of a script
pub rests_script : (r : Refusal) (old new : Outside) → Rests r old new → ScriptRests r old new
rests_script (why.Code told) old new h = λ e. h (ap is_absence e)
rests_script (why.Range key step) old new h = h
rests_script why.ReadFault old new h = h
rests_script why.WriteFault old new h = h
rests_script why.DiskFault old new h = h
rests_script why.NoMemory old new h = h
rests_script why.NotBuilt old new h = h
