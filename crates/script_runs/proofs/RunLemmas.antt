-- The steps of a run, one after another, and its footer.
use Rattle.std.proofs.Common.{◌≡◌, ◌<◌, ◌≤◌, ◌==◌, ◌+◌, ◌-◌, ◌++◌, [], Bool, true, false, ℕ, zero, suc, List, Option, Result, Ok, Err, arith, refl, sym, ap, ◌∙◌, subst, append-nil}
use Rattle.box_geo.specs.declared.atoms.Atom.{Atom}
use Rattle.box_geo.specs.Fault.{no_fault}
use Rattle.fix_list.specs.declared.fixes.NamedFix.{NamedFix}
use Rattle.meaning.specs.declared.output.Output.{Output}
use Rattle.meaning.specs.declared.refusal.Refusal.{Refusal}
use Rattle.meaning.specs.declared.uses.NameUse.{NameUse}
use Rattle.meaning.specs.Outcome.{goes}
use Rattle.meaning.specs.Runs.{Ran, Snapshot, after_step, halted, line_shown, run_from, run_of, shows, snapshot, sums_up}
use Rattle.meaning.specs.Sends.{Shows, put_refusal}
use Rattle.meaning.specs.Shown.{Shown, shown}
use Rattle.meaning.specs.Thermo.{thermo_footer}
use Rattle.outside.specs.declared.press.Piece.{Piece}
use Rattle.outside.specs.declared.press.PutRefusal.{PutRefusal}
use Rattle.outside.specs.declared.press.PutRefusal.TheVariants as put
use Rattle.outside.specs.Sent.{plus}
use Rattle.outside.proofs.Sending.{SendsCut-more, SendsFront-more}
use Rattle.script_runs.specs.Line.{footer_now}
use Rattle.script_runs.specs.Parts.{Begins, Leads, Makes, RunStopped, set_up_part, stands, step_part}
use Rattle.script_runs.proofs.PartLemmas.{begins_makes, begins_stop, leads_makes, leads_on}
use Rattle.script_runs.proofs.ShowLemmas.{shown-others, shows_others}
use Rattle.script_runs.proofs.StepLemmas.{step_part-same}
use Rattle.serial_step.specs.Step.{Outcome as StepOutcome, Setting, State, serial_step, set_up}
use Rattle.serial_step.specs.Work.{step_pairs}
use Rattle.step_engine.specs.Engine.{World, setting_of}
use Rattle.step_engine.specs.declared.rules.Rules.{Rules}
use Rattle.step_engine.specs.declared.tally.Tally.{Tally}

-- what comes after a step
abbrev after_step_to : Setting → Output → ℕ → ℕ → State → List NameUse → Ran
after_step_to t o last left s uses = run_from t o last left (snapshot (serial_step t s)) uses

-- a run opened at a step
from_suc : (t : Setting) (o : Output) (last left : ℕ) (s : Snapshot) (uses : List NameUse) → run_from t o last (suc left) s uses ≡ step_part t o last s.state uses (after_step_to t o last left s.state)
unfolding run_from
from_suc t o last left s uses = refl

from_more : (t : Setting) (o : Output) (last step : ℕ) (s : Snapshot) (uses : List NameUse) → step < last → run_from t o last (last - step) s uses ≡ step_part t o last s.state uses (after_step_to t o last (last - (step + 1)) s.state)
from_more t o last step s uses below =
    let one : last - step ≡ suc (last - (step + 1)) = omega arith in
    ap (λ (n : ℕ). run_from t o last n s uses) one ∙ from_suc t o last (last - (step + 1)) s uses

-- and at the end
abbrev ends_with : Snapshot → List NameUse → Ran
ends_with s uses = halted uses s goes

from_zero : (t : Setting) (o : Output) (last : ℕ) (s : Snapshot) (uses : List NameUse) → run_from t o last zero s uses ≡ shows (shown o (thermo_footer t s.state) uses) (ends_with s)
unfolding run_from
from_zero t o last s uses = refl

from_last : (t : Setting) (o : Output) (last step : ℕ) (s : Snapshot) (uses : List NameUse) → last ≤ step → run_from t o last (last - step) s uses ≡ shows (shown o (thermo_footer t s.state) uses) (ends_with s)
from_last t o last step s uses ended =
    let none : last - step ≡ zero = omega arith in
    ap (λ (n : ℕ). run_from t o last n s uses) none ∙ from_zero t o last s uses

-- a step begins what is left; the setting and the output are the same by equations
abbrev pub StepBegins : {T : Type 0} → Setting → Output → ℕ → State → Option (List Piece) → ℕ → Result T Refusal → Option (List Piece) → ℕ → List NameUse → Type 0
StepBegins t o last s old before result new counted uses = Begins (step_part t o last s o.uses) old before result new counted uses

opened : (t u : Setting) (o p : Output) (last step : ℕ) (s : Snapshot) → step < last → u ≡ t → p ≡ record o { uses = p.uses } → step_part u p last s.state p.uses (after_step_to t o last (last - (step + 1)) s.state) ≡ run_from t o last (last - step) s p.uses
opened t u o p last step s below same others =
    step_part-same t u o p last s.state p.uses (after_step_to t o last (last - (step + 1)) s.state) same others ∙ sym (from_more t o last step s p.uses below)

-- a step more
pub loop_on : (whole : Ran) (old mid new : Option (List Piece)) (before between counted : ℕ) (t u : Setting) (o p : Output) (last step : ℕ) (s after : Snapshot) (uses : List NameUse) (tally : Tally) → step < last → u ≡ t → p ≡ record o { uses = p.uses }
    → Leads whole old mid before between (run_from t o last (last - step) s p.uses) → StepBegins u p last s.state mid between (Ok tally) new counted uses → after ≡ snapshot (serial_step u s.state)
    → Leads whole old new before counted (run_from t o last (last - (step + 1)) after uses)
loop_on whole old mid new before between counted t u o p last step s after uses tally below same others f b is =
    let next : List NameUse → Ran = after_step_to t o last (last - (step + 1)) s.state in
    let g : Leads (run_from t o last (last - step) s p.uses) mid new between counted (next uses) =
    subst (λ (w : Ran). Leads w mid new between counted (next uses)) (opened t u o p last step s below same others) (b.leads next) in
    subst (λ (x : Snapshot). Leads whole old new before counted (run_from t o last (last - (step + 1)) x uses)) (sym (is ∙ ap (λ (v : Setting). snapshot (serial_step v s.state)) same))
    (leads_on whole (run_from t o last (last - step) s p.uses) (next uses) old mid new before between counted f g)

-- the last step that was begun
pub loop_stop : {T : Type 0} (whole : Ran) (old mid new : Option (List Piece)) (before between counted : ℕ) (t u : Setting) (o p : Output) (last step : ℕ) (s : Snapshot) (state : State) (uses : List NameUse) (why : Refusal) → step < last → u ≡ t → p ≡ record o { uses = p.uses }
    → Leads whole old mid before between (run_from t o last (last - step) s p.uses) → StepBegins {T = T} u p last s.state mid between (Err why) new counted uses → Makes whole old before (Err why) new counted uses state
loop_stop whole old mid new before between counted t u o p last step s state uses why below same others f b =
    let next : List NameUse → Ran = after_step_to t o last (last - (step + 1)) s.state in
    let left : Ran = run_from t o last (last - step) s p.uses in
    leads_makes whole left old mid new before between counted (Err why) uses state f
    (subst (λ (w : Ran). Makes w mid between (Err why) new counted uses state) (opened t u o p last step s below same others)
    (begins_stop (step_part u p last s.state p.uses) next mid new between counted why uses state b))

-- the footer of an engine whose rules stood still
pub footer_is : (w : World) (r : Rules) (fixes : List NamedFix) → w.rules ≡ r → footer_now w ≡ thermo_footer (setting_of r fixes) w.state
footer_is w r fixes same = ap (λ (x : Rules). thermo_footer (setting_of x fixes) w.state) same

-- the footer of a run, whatever uses of names the output has
footer_shown : {T : Type 0} (t : Setting) (o p : Output) (s : State) (text : List ℕ) (old new : Option (List Piece)) (r : Result T PutRefusal) (uses : List NameUse) → p ≡ record o { uses = p.uses } → text ≡ thermo_footer t s → Shows (shown p text p.uses) old r new uses → Shows (shown o (thermo_footer t s) p.uses) old r new uses
footer_shown t o p s text old new r uses others is h =
    subst (λ (x : List ℕ). Shows (shown o x p.uses) old r new uses) is (shows_others o p text p.uses uses old new r others h)

ends_made : (first : Shown) (s : State) (tally : Tally) (old new : Option (List Piece)) (before : ℕ) (uses : List NameUse) → Shows {T = Unit {0}} first old (Ok tt) new uses → Makes (shows first (ends_with (stands s tally))) old before (Ok tally) new before uses s
ends_made first s tally old new before uses h =
    record {
      way = refl;
      sent = h.sent ∙ ap (λ (ps : List Piece). plus old ps) (sym (append-nil first.pieces));
      used = h.used;
      end_is = refl;
      stopped = tt;
      few = omega arith;
      exact = omega arith;
    }

ends_stopped : (why : PutRefusal) (first : Shown) (s : Snapshot) (old new : Option (List Piece)) (uses : List NameUse) → Shows {T = Unit {0}} first old (Err why) new uses → RunStopped (put_refusal why) (shows first (ends_with s)) old new uses
ends_stopped put.Faulted first s old new uses h = SendsCut-more [] h.stopped
ends_stopped put.NoMemory first s old new uses h = SendsFront-more [] h.stopped

ends_halted : (r : Refusal) (why : PutRefusal) (first : Shown) (s : Snapshot) (state : State) (old new : Option (List Piece)) (before : ℕ) (uses : List NameUse) → r ≡ put_refusal why → Shows {T = Unit {0}} first old (Err why) new uses → Makes (shows first (ends_with s)) old before (Err r) new before uses state
ends_halted r why first s state old new before uses same h =
    record {
      way = tt;
      sent = tt;
      used = tt;
      end_is = tt;
      stopped = subst (λ (x : Refusal). RunStopped x (shows first (ends_with s)) old new uses) (sym same) (ends_stopped why first s old new uses h);
      few = omega arith;
      exact = tt;
    }

-- the footer was shown
pub loop_done : (whole : Ran) (old mid new : Option (List Piece)) (before between : ℕ) (t : Setting) (o p : Output) (last step : ℕ) (s : State) (tally : Tally) (text : List ℕ) (uses : List NameUse) → last ≤ step → p ≡ record o { uses = p.uses } → text ≡ thermo_footer t s
    → Leads whole old mid before between (run_from t o last (last - step) (stands s tally) p.uses) → Shows {T = Unit {0}} (shown p text p.uses) mid (Ok tt) new uses → Makes whole old before (Ok tally) new between uses s
loop_done whole old mid new before between t o p last step s tally text uses ended others is f h =
    let left : Ran = run_from t o last (last - step) (stands s tally) p.uses in
    leads_makes whole left old mid new before between between (Ok tally) uses s f
    (subst (λ (w : Ran). Makes w mid between (Ok tally) new between uses s) (sym (from_last t o last step (stands s tally) p.uses ended))
    (ends_made (shown o (thermo_footer t s) p.uses) s tally mid new between uses (footer_shown t o p s text mid new (Ok tt) uses others is h)))

-- or not
pub loop_halts : (whole : Ran) (old mid new : Option (List Piece)) (before between : ℕ) (t : Setting) (o p : Output) (last step : ℕ) (s : Snapshot) (state : State) (text : List ℕ) (uses : List NameUse) (r : Refusal) (why : PutRefusal) → last ≤ step → p ≡ record o { uses = p.uses } → text ≡ thermo_footer t s.state → r ≡ put_refusal why
    → Leads whole old mid before between (run_from t o last (last - step) s p.uses) → Shows {T = Unit {0}} (shown p text p.uses) mid (Err why) new uses → Makes whole old before (Err r) new between uses state
loop_halts whole old mid new before between t o p last step s state text uses r why ended others is same f h =
    let left : Ran = run_from t o last (last - step) s p.uses in
    leads_makes whole left old mid new before between between (Err r) uses state f
    (subst (λ (w : Ran). Makes w mid between (Err r) new between uses state) (sym (from_last t o last step s p.uses ended))
    (ends_halted r why (shown o (thermo_footer t s.state) p.uses) s state mid new between uses same (footer_shown t o p s.state text mid new (Err why) uses others is h)))

-- a run goes on in the same way whatever uses of names the output had
part_on : (t : Setting) (o : Output) (last : ℕ) (n : StepOutcome) (uses : List NameUse) (next other : List NameUse → Ran) (b : Bool) → ((u : List NameUse) → next u ≡ other u) → after_step t o last n uses next b ≡ after_step t o last n uses other b
part_on t o last n uses next other true same = ap (λ (rest : Ran). record rest { pieces = (line_shown t o last n.state n.sums uses).pieces ++ rest.pieces }) (same (line_shown t o last n.state n.sums uses).uses)
part_on t o last n uses next other false same = refl

pub run_from-others : (t : Setting) (o p : Output) (last left : ℕ) (s : Snapshot) (uses : List NameUse) → p ≡ record o { uses = p.uses } → run_from t p last left s uses ≡ run_from t o last left s uses
run_from-others t o p last zero s uses others =
    from_zero t p last s uses ∙ ap (λ (first : Shown). shows first (ends_with s)) (shown-others o p (thermo_footer t s.state) uses others) ∙ sym (from_zero t o last s uses)
run_from-others t o p last (suc left) s uses others =
    let n : StepOutcome = serial_step t s.state in
    from_suc t p last left s uses
    ∙ ap (sums_up (step_pairs t s.state)) (part_on t p last n uses (after_step_to t p last left s.state) (after_step_to t o last left s.state) (n.fault == no_fault) (λ u. run_from-others t o p last left (snapshot n) u others))
    ∙ step_part-same t t o p last s.state uses (after_step_to t o last left s.state) refl others
    ∙ sym (from_suc t o last left s uses)

-- from set-up on
abbrev after_set_up_to : Setting → Output → ℕ → ℕ → List Atom → List NameUse → Ran
after_set_up_to t o last step atoms uses = run_from t o last (last - step) (snapshot (set_up t step atoms)) uses

of_is : (t : Setting) (o : Output) (last step : ℕ) (atoms : List Atom) (uses : List NameUse) → run_of t o last step atoms uses ≡ set_up_part t o step atoms uses (after_set_up_to t o last step atoms)
unfolding run_of
of_is t o last step atoms uses = refl

pub run_stop : {T : Type 0} (t : Setting) (o : Output) (last step : ℕ) (atoms : List Atom) (old new : Option (List Piece)) (before counted : ℕ) (uses : List NameUse) (state : State) (why : Refusal) → Begins {T = T} (set_up_part t o step atoms o.uses) old before (Err why) new counted uses → Makes (run_of t o last step atoms o.uses) old before (Err why) new counted uses state
run_stop t o last step atoms old new before counted uses state why b =
    subst (λ (w : Ran). Makes w old before (Err why) new counted uses state) (sym (of_is t o last step atoms o.uses))
    (begins_stop (set_up_part t o step atoms o.uses) (after_set_up_to t o last step atoms) old new before counted why uses state b)

pub run_on : (t u : Setting) (o p : Output) (last step : ℕ) (atoms : List Atom) (s : Snapshot) (old mid new : Option (List Piece)) (before between counted : ℕ) (tally : Tally) (r : Result Tally Refusal) (uses : List NameUse) (state : State) → u ≡ t → s ≡ snapshot (set_up t step atoms) → p ≡ record o { uses = p.uses }
    → Begins (set_up_part t o step atoms o.uses) old before (Ok tally) mid between p.uses → Makes (run_from u p last (last - step) s p.uses) mid between r new counted uses state → Makes (run_of t o last step atoms o.uses) old before r new counted uses state
run_on t u o p last step atoms s old mid new before between counted tally r uses state same is others b h =
    let rest : run_from u p last (last - step) s p.uses ≡ after_set_up_to t o last step atoms p.uses =
    ap (λ (v : Setting). run_from v p last (last - step) s p.uses) same ∙ ap (λ (x : Snapshot). run_from t p last (last - step) x p.uses) is
    ∙ run_from-others t o p last (last - step) (snapshot (set_up t step atoms)) p.uses others in
    subst (λ (w : Ran). Makes w old before r new counted uses state) (sym (of_is t o last step atoms o.uses))
    (begins_makes (set_up_part t o step atoms o.uses) (after_set_up_to t o last step atoms) old mid new before between counted tally r p.uses uses state b
    (subst (λ (w : Ran). Makes w mid between r new counted uses state) rest h))
