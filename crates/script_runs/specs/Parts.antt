-- How the parts of a run end: set-up, a step, and all that is ahead.
use Rattle.std.specs.Prelude.{◌≡◌, ◌+◌, ◌≤◌, ◌==◌, ℕ, OnOk, IfErr, IfOk, Option, Result, List, ◌++◌, length}
use Rattle.box_geo.specs.declared.atoms.Atom.{Atom}
use Rattle.box_geo.specs.declared.fault.FaultKey.{FaultKey}
use Rattle.box_geo.specs.Fault.{no_fault}
use Rattle.meaning.specs.declared.output.Output.{Output}
use Rattle.meaning.specs.declared.refusal.Refusal.{Refusal}
use Rattle.meaning.specs.declared.refusal.Refusal.TheVariants.{DiskFault, NoMemory, NotBuilt, Range, ReadFault, WriteFault}
use Rattle.meaning.specs.declared.refusal.Refusal.TheVariants as why
use Rattle.meaning.specs.declared.uses.NameUse.{NameUse}
use Rattle.meaning.specs.Outcome.{fails, goes}
use Rattle.meaning.specs.Runs.{Ran, Snapshot, after_set_up, after_step, sums_up}
use Rattle.outside.specs.declared.press.Piece.{Piece}
use Rattle.outside.specs.Sent.{plus, SendsCut, SendsFront}
use Rattle.script_runs.specs.Line.{sums_in}
use Rattle.serial_step.specs.Step.{Outcome as StepOutcome, Setting, State, serial_step, set_up}
use Rattle.serial_step.specs.Work.{step_pairs}
use Rattle.step_engine.specs.declared.tally.Tally.{Tally}
use Rattle.sums.specs.Totals.{half}

-- where a run stands: a state, with the sums of its forces
abbrev pub stands : State → Tally → Snapshot
stands state tally = record { state = state; sums = sums_in tally }

-- a run fails at a step: all its pieces were sent, and the uses of names are those after it
pub record FailsAt (key : FaultKey) (step : ℕ) (meant : Ran) (old new : Option (List Piece)) (uses : List NameUse) : Type 0 where
  pub way : meant.way ≡ fails key step
  pub sent : new ≡ plus old meant.pieces
  pub used : uses ≡ meant.uses

-- a run stops, by a fault that is meant or with a prefix of its pieces; a run that was begun is refused by no code, and reads nothing
abbrev pub RunStopped : Refusal → Ran → Option (List Piece) → Option (List Piece) → List NameUse → Type 0
RunStopped (why.Code code) meant old new uses = ⊥
RunStopped (Range key step) meant old new uses = FailsAt key step meant old new uses
RunStopped ReadFault meant old new uses = ⊥
RunStopped WriteFault meant old new uses = SendsCut old meant.pieces new
RunStopped DiskFault meant old new uses = ⊥
RunStopped NoMemory meant old new uses = SendsFront old meant.pieces new
RunStopped NotBuilt meant old new uses = ⊥

-- the first pieces of a run were sent, its first terms were counted, and the rest is still to come
pub record Leads (whole : Ran) (old now : Option (List Piece)) (before counted : ℕ) (rest : Ran) : Type 0 where
  pub done : List Piece
  pub now_is : now ≡ plus old done
  pub pieces_are : whole.pieces ≡ done ++ rest.pieces
  pub uses_are : whole.uses ≡ rest.uses
  pub end_is : whole.end ≡ rest.end
  pub way_is : whole.way ≡ rest.way
  pub pairs_are : before + whole.pairs ≡ counted + rest.pairs

-- a call makes the first part of a run, up to what comes next, whatever that is; or the run stops with it
pub record Begins {T : Type 0} (part : (List NameUse → Ran) → Ran) (old : Option (List Piece)) (before : ℕ) (result : Result T Refusal) (new : Option (List Piece)) (counted : ℕ) (uses : List NameUse) : Type 0 where
  pub leads : OnOk result ((next : List NameUse → Ran) → Leads (part next) old new before counted (next uses))
  pub stopped : IfErr result (λ why. (next : List NameUse → Ran) → RunStopped why (part next) old new uses)
  pub few : (next : List NameUse → Ran) → counted ≤ before + (part next).pairs

-- a call makes a run up to its end, and answers the sums of its last forces; or the run stops
pub record Makes (meant : Ran) (old : Option (List Piece)) (before : ℕ) (result : Result Tally Refusal) (new : Option (List Piece)) (counted : ℕ) (uses : List NameUse) (state : State) : Type 0 where
  pub way : OnOk result (meant.way ≡ goes)
  pub sent : OnOk result (new ≡ plus old meant.pieces)
  pub used : OnOk result (uses ≡ meant.uses)
  pub end_is : IfOk result (λ tally. stands state tally ≡ meant.end)
  pub stopped : IfErr result (λ why. RunStopped why meant old new uses)
  pub few : counted ≤ before + meant.pairs
  pub exact : OnOk result (counted ≡ before + meant.pairs)

-- set-up, and then the rest
abbrev pub set_up_part : Setting → Output → ℕ → List Atom → List NameUse → (List NameUse → Ran) → Ran
set_up_part t o step atoms uses next =
    let n : StepOutcome = set_up t step atoms in
    sums_up (length (half atoms)) (after_set_up t o n uses next (n.fault == no_fault))

-- a step, and then the rest
abbrev pub step_part : Setting → Output → ℕ → State → List NameUse → (List NameUse → Ran) → Ran
step_part t o last state uses next =
    let n : StepOutcome = serial_step t state in
    sums_up (step_pairs t state) (after_step t o last n uses next (n.fault == no_fault))
