-- What a command by itself does, as what the command does: behind those that change the system nothing is known of the last run.
use Rattle.std.proofs.Common.{◌≡◌, ℕ, Bool, true, false, Option, List, [], Result, Ok, Err, refl, sym, ap, subst, ◌∙◌}
use Rattle.meaning.specs.declared.going.Going.{Going}
use Rattle.meaning.specs.declared.going.Going.TheVariants.{On, Quit}
use Rattle.meaning.specs.declared.refusal.Refusal.{Refusal}
use Rattle.meaning.specs.declared.refusal.Refusal.TheVariants as why
use Rattle.meaning.specs.declared.settings.Settings.{Settings}
use Rattle.meaning.specs.Causes.{Counted}
use Rattle.meaning.specs.Commands.{forgets_if, forgotten_by}
use Rattle.meaning.specs.Outcome.{Outcome, Way, fails, goes, quits, refuses, unbuilt}
use Rattle.meaning.specs.Sends.{EndsBy, EndsWhole, Executes, StoppedBy}
use Rattle.meaning.specs.Sound.{IsSound}
use Rattle.outside.specs.declared.press.Piece.{Piece}

-- the state stays where the script does not go on
stays_by : (b : Bool) (meant : Outcome) (how : Way) → meant.way ≡ how → forgotten_by how meant.state ≡ meant.state → (forgets_if b meant).state ≡ meant.state
stays_by true meant how is kept = ap (λ (w : Way). forgotten_by w meant.state) is ∙ kept
stays_by false meant how is kept = refl

pieces_stay : (b : Bool) (meant : Outcome) → (forgets_if b meant).pieces ≡ meant.pieces
pieces_stay true meant = refl
pieces_stay false meant = refl

way_stays : (b : Bool) (meant : Outcome) → (forgets_if b meant).way ≡ meant.way
way_stays true meant = refl
way_stays false meant = refl

whole : (b : Bool) (how : Way) (meant : Outcome) (old new : Option (List Piece)) (state : Settings) → forgotten_by how meant.state ≡ meant.state → EndsWhole how meant old new state → EndsWhole how (forgets_if b meant) old new state
whole true how meant old new state kept h = record { way = h.way; sent = h.sent; state_is = h.state_is ∙ sym (stays_by true meant how h.way kept) }
whole false how meant old new state kept h = h

by : (b : Bool) (how : Way) (meant : Outcome) (old new : Option (List Piece)) (state : Settings) → forgotten_by how meant.state ≡ meant.state → EndsBy how meant old new state → EndsBy how (forgets_if b meant) old new state
by true how meant old new state kept h = record { way = h.way; sent = h.sent; output = h.output ∙ ap (λ (s : Settings). s.output) (sym (stays_by true meant how h.way kept)) }
by false how meant old new state kept h = h

stopped : (b : Bool) (why : Refusal) (meant : Outcome) (old new : Option (List Piece)) (state : Settings) → StoppedBy why meant old new state → StoppedBy why (forgets_if b meant) old new state
stopped true (why.Code code) meant old new state h = whole true (refuses code) meant old new state refl h
stopped true (why.Range key step) meant old new state h = by true (fails key step) meant old new state refl h
stopped true why.ReadFault meant old new state h = h
stopped true why.WriteFault meant old new state h = h
stopped true why.DiskFault meant old new state h = h
stopped true why.NoMemory meant old new state h = h
stopped true why.NotBuilt meant old new state h = whole true unbuilt meant old new state refl h
stopped false why meant old new state h = h

pub forgets_refused : (b : Bool) (why : Refusal) (meant : Outcome) (old new : Option (List Piece)) (state : Settings) → Executes meant old (Err why) new state → Executes (forgets_if b meant) old (Err why) new state
forgets_refused b why meant old new state h = record { goes_on = tt; sent = tt; after = tt; stopped = stopped b why meant old new state h.stopped }

pub forgets_quit : (b : Bool) (meant : Outcome) (old new : Option (List Piece)) (state : Settings) → Executes meant old (Ok Quit) new state → Executes (forgets_if b meant) old (Ok Quit) new state
forgets_quit true meant old new state h =
    record { goes_on = h.goes_on; sent = h.sent; after = h.after ∙ sym (stays_by true meant quits h.goes_on refl); stopped = tt }
forgets_quit false meant old new state h = h

pub forgets_on : (meant : Outcome) (old new : Option (List Piece)) (state : Settings) → Executes meant old (Ok On) new state → Executes (forgets_if true meant) old (Ok On) new (record state { known = [] })
forgets_on meant old new state h =
    record {
      goes_on = h.goes_on;
      sent = h.sent;
      after = ap (λ (s : Settings). record s { known = [] }) h.after ∙ sym (ap (λ (w : Way). forgotten_by w meant.state) h.goes_on);
      stopped = tt;
    }

pub forgets_counted : {T : Type 0} (b : Bool) (meant : Outcome) (old new : ℕ) (r : Result T Refusal) → Counted meant.pairs old r new → Counted (forgets_if b meant).pairs old r new
forgets_counted {T} true meant old new r h = h
forgets_counted {T} false meant old new r h = h

pub sound_forgotten : (s : Settings) → IsSound s → IsSound (record s { known = [] })
sound_forgotten s h = record { setup = h.setup; force = h.force; body = h.body; dim = h.dim }
