-- What set-up and a step show.
use Rattle.std.proofs.Common.{◌≡◌, ◌==◌, ◌+◌, [], ℕ, Bool, true, false, List, ℤ, length, refl, sym, ap, ◌∙◌, subst}
use Rattle.std.proofs.lemmas.List.{length-map}
use Rattle.box_geo.specs.declared.atoms.Atom.{Atom}
use Rattle.box_geo.specs.declared.fault.FaultKey.{FaultKey}
use Rattle.box_geo.specs.declared.sim_box.Sides.{Sides}
use Rattle.box_geo.specs.Fault.{no_fault}
use Rattle.fix_list.specs.declared.fixes.NamedFix.{NamedFix}
use Rattle.meaning.specs.declared.output.Output.{Output}
use Rattle.meaning.specs.declared.uses.NameUse.{NameUse}
use Rattle.meaning.specs.Outcome.{fails}
use Rattle.meaning.specs.Runs.{Ran, Snapshot, after_set_up, after_step, first_shown, halted, key_of, line_shown, shown_if, shows, snapshot, sums_up}
use Rattle.meaning.specs.Shown.{Shown}
use Rattle.meaning.specs.Thermo.{is_due, thermo_line}
use Rattle.script_runs.specs.Line.{IsShown, sums_in}
use Rattle.script_runs.specs.Parts.{set_up_part, stands, step_part}
use Rattle.script_runs.proofs.KeyLemmas.{is_fault, is_sound, key_is}
use Rattle.script_runs.proofs.PartLemmas.{IsPart, fails_part, shows_part}
use Rattle.script_runs.proofs.ShowLemmas.{shown-others}
use Rattle.serial_step.specs.Forces.{field_of, forces_fault, with_forces}
use Rattle.serial_step.specs.Rebuild.{positions}
use Rattle.serial_step.specs.Step.{Outcome as StepOutcome, Setting, State, Sums, serial_step, set_up, sums_of}
use Rattle.serial_step.specs.Work.{step_pairs}
use Rattle.step_engine.specs.Engine.{IsKeyOf, World, setting_of, tally_of, with_atoms}
use Rattle.step_engine.specs.Ranges.{IsSmall, IsState, IsTimestep}
use Rattle.step_engine.specs.declared.rules.Rules.{Rules}
use Rattle.step_engine.specs.declared.tally.Tally.{Tally}
use Rattle.sums.specs.Totals.{half}

-- the way on of a key
failed : List NameUse → Snapshot → FaultKey → ℕ → Ran
failed uses end key step = halted uses end (fails key step)

failed_by : (uses : List NameUse) (end : Snapshot) (word : ℕ) (key : FaultKey) (step : ℕ) → IsKeyOf word key → end.state.step ≡ step → halted uses end (fails (key_of word) end.state.step) ≡ halted uses end (fails key step)
unfolding failed
failed_by uses end word key step is number =
    ap (λ (k : FaultKey). failed uses end k end.state.step) (sym (key_is word key is.0 is.1)) ∙ ap (λ (n : ℕ). failed uses end key n) number

-- a step without a fault, and one with a fault
pub step_shows : (t : Setting) (o : Output) (last : ℕ) (state : State) (uses : List NameUse) → (serial_step t state).fault ≡ no_fault
    → IsPart (step_part t o last state uses) (shows_part (step_pairs t state) (line_shown t o last (serial_step t state).state (serial_step t state).sums uses))
step_shows t o last state uses sound next =
    let n : StepOutcome = serial_step t state in
    ap (λ (b : Bool). sums_up (step_pairs t state) (after_step t o last n uses next b)) (is_sound n.fault sound)

pub step_fails : (t : Setting) (o : Output) (last : ℕ) (state : State) (uses : List NameUse) (key : FaultKey) (step : ℕ) → IsKeyOf (serial_step t state).fault key → (serial_step t state).state.step ≡ step
    → IsPart (step_part t o last state uses) (fails_part (step_pairs t state) uses (snapshot (serial_step t state)) key step)
step_fails t o last state uses key step is number next =
    let n : StepOutcome = serial_step t state in
    ap (λ (b : Bool). sums_up (step_pairs t state) (after_step t o last n uses next b)) (is_fault n.fault is.2)
    ∙ ap (sums_up (step_pairs t state)) (failed_by uses (snapshot n) n.fault key step is number)

-- the same of set-up
pub set_up_shows : (t : Setting) (o : Output) (step : ℕ) (atoms : List Atom) (uses : List NameUse) → (set_up t step atoms).fault ≡ no_fault
    → IsPart (set_up_part t o step atoms uses) (shows_part (length (half atoms)) (first_shown t o (set_up t step atoms).state (set_up t step atoms).sums uses))
set_up_shows t o step atoms uses sound next =
    let n : StepOutcome = set_up t step atoms in
    ap (λ (b : Bool). sums_up (length (half atoms)) (after_set_up t o n uses next b)) (is_sound n.fault sound)

pub set_up_fails : (t : Setting) (o : Output) (step : ℕ) (atoms : List Atom) (uses : List NameUse) (key : FaultKey) → IsKeyOf (set_up t step atoms).fault key → (set_up t step atoms).state.step ≡ step
    → IsPart (set_up_part t o step atoms uses) (fails_part (length (half atoms)) uses (snapshot (set_up t step atoms)) key step)
set_up_fails t o step atoms uses key is number next =
    let n : StepOutcome = set_up t step atoms in
    ap (λ (b : Bool). sums_up (length (half atoms)) (after_set_up t o n uses next b)) (is_fault n.fault is.2)
    ∙ ap (sums_up (length (half atoms))) (failed_by uses (snapshot n) n.fault key step is number)

-- the line of an engine in this state
pub line_is : (w before : World) (fixes : List NamedFix) (o : Output) (last : ℕ) (state : State) (tally : Tally) (sums : Sums) (uses : List NameUse) → w ≡ record before { state = state } → tally ≡ tally_of sums
    → line_shown (setting_of w.rules []) o last w.state (sums_in tally) uses ≡ line_shown (setting_of before.rules fixes) o last state sums uses
line_is w before fixes o last state tally sums uses is same =
    ap (λ (x : World). line_shown (setting_of x.rules []) o last x.state (sums_in tally) uses) is
    ∙ ap (λ (x : Tally). line_shown (setting_of before.rules []) o last state (sums_in x) uses) same

pub first_is : (w before : World) (fixes : List NamedFix) (o : Output) (state : State) (tally : Tally) (sums : Sums) (uses : List NameUse) → w ≡ record before { state = state } → tally ≡ tally_of sums
    → first_shown (setting_of w.rules []) o w.state (sums_in tally) uses ≡ first_shown (setting_of before.rules fixes) o state sums uses
first_is w before fixes o state tally sums uses is same =
    ap (λ (x : World). first_shown (setting_of x.rules []) o x.state (sums_in tally) uses) is
    ∙ ap (λ (x : Tally). first_shown (setting_of before.rules []) o state (sums_in x) uses) same

-- a step is shown in the same way whatever the uses of names that output has
if_same : (b : Bool) (o p : Output) (text : List ℕ) (uses : List NameUse) → p ≡ record o { uses = p.uses } → shown_if b p text uses ≡ shown_if b o text uses
if_same true o p text uses same = shown-others o p text uses same
if_same false o p text uses same = refl

line_same : (t : Setting) (o p : Output) (last : ℕ) (state : State) (sums : Sums) (uses : List NameUse) → p ≡ record o { uses = p.uses } → line_shown t p last state sums uses ≡ line_shown t o last state sums uses
line_same t o p last state sums uses same =
    let every : p.every ≡ o.every = ap (λ (x : Output). x.every) same in
    ap (λ (e : ℕ). shown_if (is_due e last state.step) p (thermo_line t state sums) uses) every
    ∙ if_same (is_due o.every last state.step) o p (thermo_line t state sums) uses same

after_same : (b : Bool) (t : Setting) (o p : Output) (last : ℕ) (n : StepOutcome) (uses : List NameUse) (next : List NameUse → Ran) → p ≡ record o { uses = p.uses } → after_step t p last n uses next b ≡ after_step t o last n uses next b
after_same true t o p last n uses next same = ap (λ (first : Shown). shows first next) (line_same t o p last n.state n.sums uses same)
after_same false t o p last n uses next same = refl

pub step_part-same : (t u : Setting) (o p : Output) (last : ℕ) (state : State) (uses : List NameUse) (next : List NameUse → Ran) → u ≡ t → p ≡ record o { uses = p.uses } → step_part u p last state uses next ≡ step_part t o last state uses next
step_part-same t u o p last state uses next setting same =
    let n : StepOutcome = serial_step t state in
    ap (λ (v : Setting). step_part v p last state uses next) setting
    ∙ ap (sums_up (step_pairs t state)) (after_same (n.fault == no_fault) t o p last n uses next same)

-- a step keeps the number of atoms
pub step_number : (t : Setting) (s : State) → (serial_step t s).state.step ≡ s.step + 1
unfolding serial_step
step_number t s = refl

pub length-step : (t : Setting) (s : State) → length (serial_step t s).state.atoms ≡ length s.atoms
unfolding serial_step with_forces
length-step t s = simp length-map

-- an engine with small sums after a step has what a line asks
pub step_shown : (w before : World) (t : Setting) (tally : Tally) → w ≡ record before { state = (serial_step t before.state).state } → IsTimestep before.rules.dt → IsState w.rules w.state → tally ≡ tally_of (serial_step t before.state).sums → IsSmall before.rules.cell.sides (length before.state.atoms) tally → IsShown w tally
step_shown w before t tally is dt fit sums small =
    let number : length before.state.atoms ≡ length w.state.atoms = sym (length-step t before.state) ∙ ap (λ (x : World). length x.state.atoms) (sym is) in
    let sides : before.rules.cell.sides ≡ w.rules.cell.sides = ap (λ (x : World). x.rules.cell.sides) (sym is) in
    record {
      step = fit.step;
      few = fit.atoms.few;
      dt = subst (λ (x : World). IsTimestep x.rules.dt) (sym is) dt;
      movable = fit.atoms.movable;
      small = subst (λ (n : ℕ). IsSmall w.rules.cell.sides n tally) number (subst (λ (s : Sides). IsSmall s (length before.state.atoms) tally) sides small);
      bond = ap (λ (x : Tally). x.bond) sums;
      angle = ap (λ (x : Tally). x.angle) sums;
    }

pub state_next : (w before : World) (t : Setting) → w ≡ record before { state = (serial_step t before.state).state } → w.state ≡ (serial_step t before.state).state
state_next w before t is = ap (λ (x : World). x.state) is

-- where a step stands, and set-up
pub stands_next : (w before : World) (t : Setting) (tally : Tally) → w ≡ record before { state = (serial_step t before.state).state } → tally ≡ tally_of (serial_step t before.state).sums → stands w.state tally ≡ snapshot (serial_step t before.state)
stands_next w before t tally is sums =
    ap (λ (x : State). stands x tally) (state_next w before t is) ∙ ap (λ (x : Tally). stands (serial_step t before.state).state x) sums

pub stands_first : (w before : World) (t : Setting) (tally : Tally) → w ≡ record before { state = (set_up t before.state.step before.state.atoms).state } → tally ≡ tally_of (set_up t before.state.step before.state.atoms).sums → stands w.state tally ≡ snapshot (set_up t before.state.step before.state.atoms)
stands_first w before t tally is sums =
    ap (λ (x : World). stands x.state tally) is ∙ ap (λ (x : Tally). stands (set_up t before.state.step before.state.atoms).state x) sums

pub number_next : (w before : World) (t : Setting) (step : ℕ) → w ≡ record before { state = (serial_step t before.state).state } → step ≡ before.state.step → step + 1 ≡ w.state.step
number_next w before t step is number =
    ap (λ (n : ℕ). n + 1) number ∙ sym (ap (λ (s : State). s.step) (state_next w before t is) ∙ step_number t before.state)

-- what set-up makes of an engine that is new
pub set_up_fault : (r : Rules) (fixes : List NamedFix) (step : ℕ) (atoms : List Atom) → (set_up (setting_of r fixes) step atoms).fault ≡ forces_fault (field_of r.field.pairs.pairs) r.cell.sides atoms
unfolding set_up
set_up_fault r fixes step atoms = refl

pub set_up_number : (t : Setting) (step : ℕ) (atoms : List Atom) → (set_up t step atoms).state.step ≡ step
unfolding set_up
set_up_number t step atoms = refl

pub set_up_sums : (t : Setting) (step : ℕ) (atoms : List Atom) → (set_up t step atoms).sums ≡ sums_of t atoms
unfolding set_up
set_up_sums t step atoms = refl

-- a world with another state, and a state by its parts
abbrev with_state : World → State → World
with_state w s = record w { state = s }

abbrev state_with : ℕ → List Atom → List (List ℤ) → ℕ → State
state_with step atoms references builds = record { step = step; atoms = atoms; references = references; builds = builds }

set_up_state : (t : Setting) (s : State) → s.references ≡ positions s.atoms → s.builds ≡ 0 → record s { atoms = with_forces t.field t.sides s.atoms } ≡ (set_up t s.step s.atoms).state
unfolding set_up
set_up_state t s references builds =
    ap (λ (x : List (List ℤ)). state_with s.step (with_forces t.field t.sides s.atoms) x s.builds) references
    ∙ ap (λ (n : ℕ). state_with s.step (with_forces t.field t.sides s.atoms) (positions s.atoms) n) builds

pub set_up_world : (w before : World) (fixes : List NamedFix) → w ≡ with_atoms before (with_forces (field_of before.rules.field.pairs.pairs) before.rules.cell.sides before.state.atoms) → before.state.references ≡ positions before.state.atoms → before.state.builds ≡ 0 → w ≡ record before { state = (set_up (setting_of before.rules fixes) before.state.step before.state.atoms).state }
set_up_world w before fixes is references builds =
    is ∙ ap (λ (s : State). with_state before s) (set_up_state (setting_of before.rules fixes) before.state references builds)

pub set_up_tally : (tally : Tally) (t : Setting) (step : ℕ) (atoms : List Atom) → tally ≡ tally_of (sums_of t atoms) → tally ≡ tally_of (set_up t step atoms).sums
set_up_tally tally t step atoms sums = sums ∙ ap (λ (x : Sums). tally_of x) (sym (set_up_sums t step atoms))

-- an engine and an output that change in one part alone
pub world_stands : (w mid first : World) (state : State) → w ≡ record mid { state = state } → mid ≡ record first { state = mid.state } → w ≡ record first { state = w.state }
world_stands w mid first state is from =
    is ∙ ap (λ (x : World). with_state x state) from ∙ ap (λ (s : State). with_state first s) (sym (ap (λ (x : World). x.state) is))

abbrev with_uses : Output → List NameUse → Output
with_uses o uses = record o { uses = uses }

pub others_stand : (p mid o : Output) → p ≡ record mid { uses = p.uses } → mid ≡ record o { uses = mid.uses } → p ≡ record o { uses = p.uses }
others_stand p mid o is from = is ∙ ap (λ (x : Output). with_uses x p.uses) from
