-- How the parts of a run make up the whole.
use Rattle.std.proofs.Common.{◌≡◌, ◌≤◌, ◌+◌, ◌++◌, [], ℕ, List, Option, Result, Ok, Err, arith, refl, sym, ap, ◌∙◌, subst, append_assoc}
use Rattle.box_geo.specs.declared.fault.FaultKey.{FaultKey}
use Rattle.meaning.specs.declared.refusal.Refusal.{Refusal}
use Rattle.meaning.specs.declared.refusal.Refusal.TheVariants.{DiskFault, NoMemory, NotBuilt, Range, ReadFault, WriteFault}
use Rattle.meaning.specs.declared.refusal.Refusal.TheVariants as why
use Rattle.meaning.specs.declared.uses.NameUse.{NameUse}
use Rattle.meaning.specs.Outcome.{fails}
use Rattle.meaning.specs.Runs.{Ran, Snapshot, halted, shows, sums_up}
use Rattle.meaning.specs.Sends.{Shows, put_refusal}
use Rattle.meaning.specs.Shown.{Shown}
use Rattle.outside.specs.declared.press.Piece.{Piece}
use Rattle.outside.specs.declared.press.PutRefusal.{PutRefusal}
use Rattle.outside.specs.declared.press.PutRefusal.TheVariants as put
use Rattle.outside.specs.Sent.{plus, SendsCut, SendsFront}
use Rattle.outside.proofs.Sending.{plus-nil, plus_after, SendsCut-after, SendsCut-more, SendsFront-after, SendsFront-more, SendsFront-none}
use Rattle.script_runs.specs.Parts.{Begins, FailsAt, Leads, Makes, RunStopped}
use Rattle.serial_step.specs.Step.{State}
use Rattle.step_engine.specs.declared.tally.Tally.{Tally}

-- nothing was sent yet
pub leads_start : (whole : Ran) (old : Option (List Piece)) (before : ℕ) → Leads whole old old before before whole
leads_start whole old before =
    record { done = []; now_is = sym (plus-nil old); pieces_are = refl; uses_are = refl; end_is = refl; way_is = refl; pairs_are = refl }

-- one part after another
pub leads_on : (whole left rest : Ran) (old mid new : Option (List Piece)) (before between counted : ℕ) → Leads whole old mid before between left → Leads left mid new between counted rest → Leads whole old new before counted rest
leads_on whole left rest old mid new before between counted f g =
    record {
      done = f.done ++ g.done;
      now_is = plus_after old f.done g.done f.now_is g.now_is;
      pieces_are = f.pieces_are ∙ ap (λ (w : List Piece). f.done ++ w) g.pieces_are ∙ sym (append_assoc f.done g.done rest.pieces);
      uses_are = f.uses_are ∙ g.uses_are;
      end_is = f.end_is ∙ g.end_is;
      way_is = f.way_is ∙ g.way_is;
      pairs_are = f.pairs_are ∙ g.pairs_are;
    }

-- all of what is left was sent
all_sent : (whole left : Ran) (old mid new : Option (List Piece)) (before between : ℕ) → Leads whole old mid before between left → new ≡ plus mid left.pieces → new ≡ plus old whole.pieces
all_sent whole left old mid new before between f sent =
    plus_after old f.done left.pieces f.now_is sent ∙ ap (λ (ps : List Piece). plus old ps) (sym f.pieces_are)

-- a later part stopped
pub leads_stop : (why : Refusal) (whole left : Ran) (old mid new : Option (List Piece)) (before between : ℕ) (uses : List NameUse) → Leads whole old mid before between left → RunStopped why left mid new uses → RunStopped why whole old new uses
leads_stop (why.Code code) whole left old mid new before between uses f s = s
leads_stop (Range key step) whole left old mid new before between uses f s =
    record { way = f.way_is ∙ s.way; sent = all_sent whole left old mid new before between f s.sent; used = s.used ∙ sym f.uses_are }
leads_stop ReadFault whole left old mid new before between uses f s = s
leads_stop WriteFault whole left old mid new before between uses f s =
    subst (λ (ps : List Piece). SendsCut old ps new) (sym f.pieces_are) (SendsCut-after f.done f.now_is s)
leads_stop DiskFault whole left old mid new before between uses f s = s
leads_stop NoMemory whole left old mid new before between uses f s =
    subst (λ (ps : List Piece). SendsFront old ps new) (sym f.pieces_are) (SendsFront-after f.done f.now_is s)
leads_stop NotBuilt whole left old mid new before between uses f s = s

-- what is left was made, or stopped
pub leads_makes : (whole left : Ran) (old mid new : Option (List Piece)) (before between counted : ℕ) (r : Result Tally Refusal) (uses : List NameUse) (state : State) → Leads whole old mid before between left → Makes left mid between r new counted uses state → Makes whole old before r new counted uses state
leads_makes whole left old mid new before between counted (Ok tally) uses state f h =
    record {
      way = f.way_is ∙ h.way;
      sent = all_sent whole left old mid new before between f h.sent;
      used = h.used ∙ sym f.uses_are;
      end_is = h.end_is ∙ sym f.end_is;
      stopped = tt;
      few = omega (arith, f.pairs_are, h.few);
      exact = omega (arith, f.pairs_are, h.exact);
    }
leads_makes whole left old mid new before between counted (Err why) uses state f h =
    record {
      way = tt;
      sent = tt;
      used = tt;
      end_is = tt;
      stopped = leads_stop why whole left old mid new before between uses f h.stopped;
      few = omega (arith, f.pairs_are, h.few);
      exact = tt;
    }

-- the first part was made, and then the rest
pub begins_makes : {T : Type 0} (part : (List NameUse → Ran) → Ran) (next : List NameUse → Ran) (old mid new : Option (List Piece)) (before between counted : ℕ) (x : T) (r : Result Tally Refusal) (first after : List NameUse) (state : State) → Begins part old before (Ok x) mid between first → Makes (next first) mid between r new counted after state → Makes (part next) old before r new counted after state
begins_makes part next old mid new before between counted x r first after state b h =
    leads_makes (part next) (next first) old mid new before between counted r after state (b.leads next) h

-- the run stopped with its first part
pub begins_stop : {T : Type 0} (part : (List NameUse → Ran) → Ran) (next : List NameUse → Ran) (old new : Option (List Piece)) (before counted : ℕ) (why : Refusal) (uses : List NameUse) (state : State) → Begins {T = T} part old before (Err why) new counted uses → Makes (part next) old before (Err why) new counted uses state
begins_stop part next old new before counted why uses state b =
    record { way = tt; sent = tt; used = tt; end_is = tt; stopped = b.stopped next; few = b.few next; exact = tt }

-- a part that sums so many terms and then shows a text
abbrev pub shows_part : ℕ → Shown → (List NameUse → Ran) → Ran
shows_part n first next = sums_up n (shows first next)

abbrev pub IsPart : ((List NameUse → Ran) → Ran) → ((List NameUse → Ran) → Ran) → Type 0
IsPart part other = (next : List NameUse → Ran) → part next ≡ other next

text_leads : (n : ℕ) (first : Shown) (next : List NameUse → Ran) (old new : Option (List Piece)) (before : ℕ) → new ≡ plus old first.pieces → Leads (shows_part n first next) old new before (before + n) (next first.uses)
text_leads n first next old new before sent =
    record { done = first.pieces; now_is = sent; pieces_are = refl; uses_are = refl; end_is = refl; way_is = refl; pairs_are = omega arith }

pub part_begins : {X T : Type 0} (part : (List NameUse → Ran) → Ran) (n : ℕ) (first : Shown) (old new : Option (List Piece)) (before counted : ℕ) (uses : List NameUse) (x : X) (y : T) → IsPart part (shows_part n first) → counted ≡ before + n → Shows first old (Ok x) new uses → Begins part old before (Ok y) new counted uses
part_begins part n first old new before counted uses x y is sum h =
    record {
      leads = λ (next : List NameUse → Ran).
          let plain : Leads (shows_part n first next) old new before counted (next first.uses) =
          subst (λ (k : ℕ). Leads (shows_part n first next) old new before k (next first.uses)) (sym sum) (text_leads n first next old new before h.sent) in
          subst (λ (u : List NameUse). Leads (part next) old new before counted (next u)) (sym h.used)
          (subst (λ (w : Ran). Leads w old new before counted (next first.uses)) (sym (is next)) plain);
      stopped = tt;
      few = λ (next : List NameUse → Ran). omega (arith, sum, ap (λ (w : Ran). w.pairs) (is next));
    }

halts : (why : PutRefusal) (n : ℕ) (first : Shown) (next : List NameUse → Ran) (old new : Option (List Piece)) (uses after : List NameUse) → Shows {T = Unit {0}} first old (Err why) new after → RunStopped (put_refusal why) (shows_part n first next) old new uses
halts put.Faulted n first next old new uses after h = SendsCut-more (next first.uses).pieces h.stopped
halts put.NoMemory n first next old new uses after h = SendsFront-more (next first.uses).pieces h.stopped

pub part_halts : {T : Type 0} (part : (List NameUse → Ran) → Ran) (n : ℕ) (first : Shown) (old new : Option (List Piece)) (before counted : ℕ) (uses : List NameUse) (why : PutRefusal) (r : Refusal) → IsPart part (shows_part n first) → counted ≡ before + n → r ≡ put_refusal why → Shows {T = Unit {0}} first old (Err why) new uses → Begins {T = T} part old before (Err r) new counted uses
part_halts part n first old new before counted uses why r is sum same h =
    record {
      leads = tt;
      stopped = λ (next : List NameUse → Ran).
          subst (λ (w : Ran). RunStopped r w old new uses) (sym (is next))
          (subst (λ (x : Refusal). RunStopped x (shows_part n first next) old new uses) (sym same) (halts why n first next old new uses uses h));
      few = λ (next : List NameUse → Ran). omega (arith, sum, ap (λ (w : Ran). w.pairs) (is next));
    }

-- a part that fails
abbrev pub fails_part : ℕ → List NameUse → Snapshot → FaultKey → ℕ → (List NameUse → Ran) → Ran
fails_part n uses end key step next = sums_up n (halted uses end (fails key step))

pub part_fails : {T : Type 0} (part : (List NameUse → Ran) → Ran) (n : ℕ) (end : Snapshot) (key : FaultKey) (step : ℕ) (old : Option (List Piece)) (before counted : ℕ) (uses : List NameUse) → IsPart part (fails_part n uses end key step) → counted ≤ before + n → Begins {T = T} part old before (Err (Range key step)) old counted uses
part_fails part n end key step old before counted uses is sum =
    record {
      leads = tt;
      stopped = λ (next : List NameUse → Ran).
          let at : FailsAt key step (fails_part n uses end key step next) old old uses = record { way = refl; sent = sym (plus-nil old); used = refl } in
          subst (λ (w : Ran). FailsAt key step w old old uses) (sym (is next)) at;
      few = λ (next : List NameUse → Ran). omega (arith, sum, ap (λ (w : Ran). w.pairs) (is next));
    }

-- no memory for a part
pub part_without : {T : Type 0} (n : ℕ) (rest : (List NameUse → Ran) → Ran) (old : Option (List Piece)) (before counted : ℕ) (uses : List NameUse) → counted ≤ before + n → Begins {T = T} (λ next. sums_up n (rest next)) old before (Err NoMemory) old counted uses
part_without n rest old before counted uses sum =
    record {
      leads = tt;
      stopped = λ (next : List NameUse → Ran). SendsFront-none old (rest next).pieces;
      few = λ (next : List NameUse → Ran). omega (arith, sum);
    }
