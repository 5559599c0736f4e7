-- Runs: set-up, and then one serial step after another, with what is due after each.
use Rattle.std.specs.Prelude.{◌+◌, ◌-◌, ◌/◌, ◌%◌, ◌^◌, ◌==◌, ◌&&◌, ◌||◌, Bool, true, false, cond, not, is_none, nat_lt, ℕ, zero, suc, pos, ◌+ℤ◌, unsigned_abs, Option, Some, None, Result, Ok, Err, List, [], ◌++◌, length}
use Rattle.std.specs.List.{list_all}
use Rattle.box_geo.specs.declared.fault.FaultKey.{FaultKey}
use Rattle.box_geo.specs.declared.limits.TheConstants.{MAX_STEP}
use Rattle.box_geo.specs.Fault.{no_fault}
use Rattle.fix_list.specs.Fixes.{moves}
use Rattle.meaning.specs.declared.code.Code.{Code}
use Rattle.meaning.specs.declared.code.Code.TheVariants.{BadValue, EdgeTooSmall, NoBox, TwiceMoved, Unset}
use Rattle.meaning.specs.declared.output.Output.{Output}
use Rattle.meaning.specs.declared.settings.Body.{Body}
use Rattle.meaning.specs.declared.settings.Settings.{Settings}
use Rattle.meaning.specs.Fixes.{fixes_over, move_twice}
use Rattle.meaning.specs.MassesGroups.{are_massive}
use Rattle.meaning.specs.Outcome.{Outcome, Way, fails, goes, refused, silent, unbuilt}
use Rattle.meaning.specs.Pairs.{reach_of}
use Rattle.meaning.specs.Shown.{Shown, nothing_shown, shown, shown_then}
use Rattle.meaning.specs.Thermo.{is_due, numbers_of, thermo_footer, thermo_header, thermo_line}
use Rattle.outside.specs.declared.press.Piece.{Piece}
use Rattle.pair_lj.specs.declared.pair_settings.PairCoefficients.{PairCoefficients}
use Rattle.pair_lj.specs.Pairs.{are_all_had, is_set, types_from}
use Rattle.serial_step.specs.Forces.{field_of}
use Rattle.serial_step.specs.Room.{edge_too_small}
use Rattle.serial_step.specs.Work.{step_pairs}
use Rattle.sums.specs.Totals.{half}
use Rattle.serial_step.specs.Step.{Outcome as StepOutcome, Setting, State, Sums, serial_step, set_up}
use Rattle.box_geo.specs.declared.atoms.Atom.{Atom}
use Rattle.meaning.specs.declared.uses.NameUse.{NameUse}

-- the number of the step that a run ends at: so many more, or up to one
abbrev pub last_step : Bool → ℕ → ℕ → ℕ
last_step true n step = n
last_step false n step = step + n

-- the key of a fault's word
abbrev pub key_of : ℕ → FaultKey
key_of word = record { phase = word / 2 ^ 56; kind = word / 2 ^ 48 % 2 ^ 8; a = word / 2 ^ 24 % 2 ^ 24; b = word % 2 ^ 24 }

-- what stands still in a run
abbrev pub setting_of : Settings → Body → Setting
setting_of s b = record {
  field = field_of s.force.pairs;
  sides = b.sides;
  dt = s.setup.timestep;
  mass = b.mass;
  skin = unsigned_abs s.force.skin;
  cutoff = reach_of s.force;
  moves = moves (fixes_over s.named.groups b.atoms s.named.fixes);
}

-- whether each type has coefficients with itself: then each pair of types has its own, or may have them mixed
abbrev pub have_own : ℕ → List PairCoefficients → Bool
have_own kinds pairs = list_all (λ kind. is_set pairs kind kind) (types_from 1 kinds)

-- all that forces and motion rest on is set: a pair style, each mass, the coefficients of each type with itself
abbrev pub is_ready : Settings → Body → Bool
is_ready s b = not (is_none s.force.pair_style) && are_massive b.mass && have_own (length b.mass) s.force.pairs

-- whether the coefficients of a pair of types would have to be mixed, which is not built yet
abbrev pub is_mixed : Settings → Body → Bool
is_mixed s b = not (are_all_had (length b.mass) s.force.pairs)

-- why a run is refused, in the order of judgement: first what is asked and what is set, then what rests on the cutoffs and the fixes
abbrev pub early_code : Bool → ℕ → Settings → Body → Option Code
early_code upto n s b =
    cond ((upto && nat_lt n b.step) || nat_lt MAX_STEP (last_step upto n b.step)) (Some BadValue)
    (cond (not (is_ready s b)) (Some Unset) None)

abbrev pub late_code : Settings → Body → Option Code
late_code s b =
    cond (not (is_none (edge_too_small b.sides (pos (reach_of s.force) +ℤ s.force.skin)))) (Some EdgeTooSmall)
    (cond (move_twice (fixes_over s.named.groups b.atoms s.named.fixes) b.atoms) (Some TwiceMoved) None)

-- the state after set-up or a step, with the sums of its forces
pub record Snapshot : Type 0 where
  pub state : State
  pub sums : Sums

abbrev pub snapshot : StepOutcome → Snapshot
snapshot n = record { state = n.state; sums = n.sums }

-- a run or a part of it: its pieces, the uses of names afterwards, where it ends, the way on, and how many terms of pairs it sums
pub record Ran : Type 0 where
  pub pieces : List Piece
  pub uses : List NameUse
  pub end : Snapshot
  pub way : Way
  pub pairs : ℕ

abbrev pub halted : List NameUse → Snapshot → Way → Ran
halted uses end way = record { pieces = []; uses = uses; end = end; way = way; pairs = 0 }

-- so many terms, and then the rest
abbrev pub sums_up : ℕ → Ran → Ran
sums_up pairs rest = record rest { pairs = pairs + rest.pairs }

-- what is shown, and then the rest
abbrev pub shows : Shown → (List NameUse → Ran) → Ran
shows first next = record (next first.uses) { pieces = first.pieces ++ (next first.uses).pieces }

abbrev pub shown_if : Bool → Output → List ℕ → List NameUse → Shown
shown_if true o text uses = shown o text uses
shown_if false o text uses = nothing_shown uses

-- the line of a step, if one is due
abbrev pub line_shown : Setting → Output → ℕ → State → Sums → List NameUse → Shown
line_shown t o last state sums uses = shown_if (is_due o.every last state.step) o (thermo_line t state sums) uses

-- after a step without a fault: its line, if one is due, and what follows; or the fault
abbrev pub after_step : Setting → Output → ℕ → StepOutcome → List NameUse → (List NameUse → Ran) → Bool → Ran
after_step t o last n uses next true = shows (line_shown t o last n.state n.sums uses) next
after_step t o last n uses next false = halted uses (snapshot n) (fails (key_of n.fault) n.state.step)

-- so many steps more, and then the footer
unfoldable pub run_from : Setting → Output → ℕ → ℕ → Snapshot → List NameUse → Ran
run_from t o last zero now uses = shows (shown o (thermo_footer t now.state) uses) (λ after. halted after now goes)
run_from t o last (suc left) now uses =
    let n : StepOutcome = serial_step t now.state in
    sums_up (step_pairs t now.state) (after_step t o last n uses (λ after. run_from t o last left (snapshot n) after) (n.fault == no_fault))

-- set-up, whose line is always due, and then the steps
abbrev pub first_shown : Setting → Output → State → Sums → List NameUse → Shown
first_shown t o state sums uses = shown_then (shown o thermo_header uses) (shown o (thermo_line t state sums))

abbrev pub after_set_up : Setting → Output → StepOutcome → List NameUse → (List NameUse → Ran) → Bool → Ran
after_set_up t o n uses next true = shows (first_shown t o n.state n.sums uses) next
after_set_up t o n uses next false = halted uses (snapshot n) (fails (key_of n.fault) n.state.step)

unfoldable pub run_of : Setting → Output → ℕ → ℕ → List Atom → List NameUse → Ran
run_of t o last step atoms uses =
    let n : StepOutcome = set_up t step atoms in
    sums_up (length (half atoms)) (after_set_up t o n uses (λ after. run_from t o last (last - step) (snapshot n) after) (n.fault == no_fault))

-- the state after a run; the numbers of its last step are known from then on, as its last line has them
abbrev pub ends_as : Settings → Body → Snapshot → List NameUse → Settings
ends_as s b end uses = record s {
  body = Some (record b { step = end.state.step; atoms = end.state.atoms });
  output = record s.output { uses = uses };
  known = numbers_of (setting_of s b) end.state end.sums;
}

abbrev pub after_run : Settings → Body → Ran → Outcome
after_run s b r = record { pieces = r.pieces; state = ends_as s b r.end r.uses; way = r.way; pairs = r.pairs }

abbrev pub run_ready : Bool → ℕ → Settings → Body → Outcome
run_ready upto n s b = after_run s b (run_of (setting_of s b) s.output (last_step upto n b.step) b.step b.atoms s.output.uses)

-- a code, or else what is meant
abbrev pub unless_refused : Settings → Option Code → Outcome → Outcome
unless_refused s (Some why) meant = refused s why
unless_refused s None meant = meant

abbrev pub run_in : Bool → ℕ → Settings → Option Body → Outcome
run_in upto n s None = refused s NoBox
run_in upto n s (Some b) =
    unless_refused s (early_code upto n s b)
    (cond (is_mixed s b) (silent s unbuilt)
    (unless_refused s (late_code s b) (run_ready upto n s b)))

-- `run N` and `run N upto`
abbrev pub run : Bool → ℕ → Settings → Outcome
run upto n s = run_in upto n s s.body

-- the step gets a number
abbrev pub numbered : ℕ → Settings → Option Body → Result Settings Code
numbered n s None = Err NoBox
numbered n s (Some b) = Ok (record s { body = Some (record b { step = n }) })

abbrev pub reset_timestep : ℕ → Settings → Result Settings Code
reset_timestep n s = numbered n s s.body
