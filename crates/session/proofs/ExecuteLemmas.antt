-- A command in its function: what the function says, as the meaning of the command.
use Rattle.std.proofs.Common.{◌≡◌, ◌≤◌, ◌+◌, ℕ, false, Option, List, [], Result, Ok, Err, IfErr, OnOk, refl, sym, ap, subst, ◌∙◌, arith}
use Rattle.meaning.specs.declared.code.Code.{Code}
use Rattle.meaning.specs.declared.going.Going.TheVariants.{On}
use Rattle.meaning.specs.declared.refusal.Refusal.{Refusal}
use Rattle.meaning.specs.declared.refusal.Refusal.TheVariants as why
use Rattle.meaning.specs.declared.refusal.SettingsRefusal.{SettingsRefusal}
use Rattle.meaning.specs.declared.refusal.SettingsRefusal.TheVariants as settings
use Rattle.meaning.specs.declared.settings.Settings.{Settings}
use Rattle.meaning.specs.Answers.{Answers, Decides}
use Rattle.meaning.specs.Causes.{Counted, Outside, Kept, Rests, Stays, nothing_lent, press_alone, shelf_alone, seen_of}
use Rattle.meaning.specs.Outcome.{Outcome, answered, done, refused, refuses, silent}
use Rattle.meaning.specs.Sends.{Changes, Does, Executes, RefusesWith, StoppedBy}
use Rattle.outside.specs.declared.press.Piece.{Piece}
use Rattle.outside.specs.Sent.{plus}
use Rattle.outside.proofs.Sending.{plus-nil, SendsFront-none}
use Rattle.session.specs.Refusals.{changed_of, coded_of, on_of, widened}

-- nothing was sent
sends_nothing : (meant : Outcome) (sent : Option (List Piece)) → meant.pieces ≡ [] → sent ≡ plus sent meant.pieces
sends_nothing meant sent h = sym (plus-nil sent) ∙ ap (λ (ps : List Piece). plus sent ps) (sym h)

pub stops_silent : (why : Refusal) (meant : Outcome) (sent : Option (List Piece)) (new : Settings) → RefusesWith why meant new → StoppedBy why meant sent sent new
stops_silent (why.Code code) meant sent new h =
    record { way = ap (λ (o : Outcome). o.way) h; sent = sends_nothing meant sent (ap (λ (o : Outcome). o.pieces) h); state_is = ap (λ (o : Outcome). o.state) (sym h) }
stops_silent (why.Range key step) meant sent new h = absurd h
stops_silent why.ReadFault meant sent new h = SendsFront-none sent meant.pieces
stops_silent why.WriteFault meant sent new h = absurd h
stops_silent why.DiskFault meant sent new h = absurd h
stops_silent why.NoMemory meant sent new h = SendsFront-none sent meant.pieces
stops_silent why.NotBuilt meant sent new h =
    record { way = ap (λ (o : Outcome). o.way) h; sent = sends_nothing meant sent (ap (λ (o : Outcome). o.pieces) h); state_is = ap (λ (o : Outcome). o.state) (sym h) }

-- a call that sends nothing
pub changes_executes : (meant : Outcome) (r : Result Unit Refusal) (sent : Option (List Piece)) (new : Settings) → Changes meant r new → Executes meant sent (on_of r) sent new
changes_executes meant (Ok x) sent new h =
    record {
      goes_on = ap (λ (o : Outcome). o.way) h;
      sent = sends_nothing meant sent (ap (λ (o : Outcome). o.pieces) h);
      after = ap (λ (o : Outcome). o.state) (sym h);
      stopped = tt;
    }
changes_executes meant (Err why) sent new h = record { goes_on = tt; sent = tt; after = tt; stopped = stops_silent why meant sent new h }

pub decides_executes : (s new : Settings) (meant : Result Settings Code) (r : Result Unit Code) (sent : Option (List Piece)) → Decides meant r s new → Executes (answered s meant) sent (coded_of r) sent new
decides_executes s new meant (Ok x) sent h = changes_executes (answered s meant) (Ok x) sent new (ap (answered s) h)
decides_executes s new meant (Err code) sent h =
    changes_executes (answered s meant) (Err (why.Code code)) sent new (ap (answered s) h.0 ∙ ap (λ (t : Settings). refused t code) (sym h.2))

pub answers_executes : (s new : Settings) (meant : Result Settings Code) (r : Result Unit SettingsRefusal) (sent : Option (List Piece)) → Answers meant r s new → Executes (answered s meant) sent (changed_of r) sent new
answers_executes s new meant (Ok x) sent h = changes_executes (answered s meant) (Ok x) sent new (ap (answered s) h)
answers_executes s new meant (Err (settings.Code code)) sent h =
    changes_executes (answered s meant) (Err (why.Code code)) sent new (ap (answered s) h.0 ∙ ap (λ (t : Settings). refused t code) (sym h.2))
answers_executes s new meant (Err settings.NoMemory) sent h =
    record { goes_on = tt; sent = tt; after = tt; stopped = SendsFront-none sent (answered s meant).pieces }

-- a call that sends
pub does_executes : (meant : Outcome) (r : Result Unit Refusal) (old new : Option (List Piece)) (state : Settings) → Does meant old r new state → Executes meant old (on_of r) new state
does_executes meant (Ok x) old new state h = record { goes_on = h.goes_on; sent = h.sent; after = h.after; stopped = tt }
does_executes meant (Err why) old new state h = record { goes_on = tt; sent = tt; after = tt; stopped = h.stopped }

-- no terms of pairs are summed
pub none_counted : {T : Type 0} (pairs n : ℕ) (r : Result T Refusal) → pairs ≡ 0 → Counted pairs n r n
none_counted {T} pairs n (Ok x) h = record { few = omega arith; exact = omega arith }
none_counted {T} pairs n (Err why) h = record { few = omega arith; exact = tt }

answered_pairs : (s : Settings) (meant : Result Settings Code) → (answered s meant).pairs ≡ 0
answered_pairs s (Ok new) = refl
answered_pairs s (Err why) = refl

pub answered_counted : {T : Type 0} (s : Settings) (meant : Result Settings Code) (r : Result T Refusal) (n : ℕ) → Counted (answered s meant).pairs n r n
answered_counted {T} s meant r n = none_counted (answered s meant).pairs n r (answered_pairs s meant)

pub on_counted : (pairs old new : ℕ) (r : Result Unit Refusal) → Counted pairs old r new → Counted pairs old (on_of r) new
on_counted pairs old new (Ok x) h = record { few = h.few; exact = h.exact }
on_counted pairs old new (Err why) h = record { few = h.few; exact = tt }
