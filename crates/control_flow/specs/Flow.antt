-- The flow of a run through its scripts: a stack of files, the skip flag of `jump`, and how many lines were run.
use Rattle.std.specs.Prelude.{◌≡◌, ◌+◌, ◌<◌, Bool, true, false, cond, nat_lt, ℕ, Option, Some, None, Result, Ok, Err, List, [], ◌∷◌, length}
use Rattle.box_geo.specs.declared.limits.TheConstants.{MAX_INCLUDES, MAX_LINES}
use Rattle.script_lines.specs.declared.refusals.LineRefusal.{LineRefusal}
use Rattle.script_lines.specs.Script.{NumberedLine, Script, script_at}
use Rattle.control_flow.specs.declared.event.FlowEvent.{FlowEvent}
use Rattle.control_flow.specs.declared.event.FlowEvent.TheVariants as event
use Rattle.control_flow.specs.declared.refusals.FlowRefusal.{FlowRefusal}
use Rattle.control_flow.specs.declared.refusals.FlowRefusal.TheVariants.{Line, Budget, IncludeTooDeep}
use Rattle.control_flow.specs.Labels.{behind_label}

-- a file that is open: its name, its text, and what is left of its script
pub record OpenFile : Type 0 where
  pub name : List ℕ
  pub text : List ℕ
  pub left : Script

-- the line that was asked for last
pub record LineName : Type 0 where
  pub file : List ℕ
  pub number : ℕ

-- a flow: its innermost file, the files that include it from the nearest on, whether the next jump is skipped, the last line and how many were run
pub record FlowState : Type 0 where
  pub file : OpenFile
  pub outer : List OpenFile
  pub skips : Bool
  pub last : LineName
  pub count : ℕ

-- a file from its start
abbrev pub opened : List ℕ → List ℕ → OpenFile
opened name text = record { name = name; text = text; left = script_at text 0 }

-- a run begins with the start of a script; no line was asked for
abbrev pub started : List ℕ → List ℕ → FlowState
started name text =
    record { file = opened name text; outer = []; skips = false; last = record { file = name; number = 0 }; count = 0 }

abbrev pub in_file : FlowState → OpenFile → FlowState
in_file flow file = record flow { file = file }

abbrev pub with_left : OpenFile → Script → OpenFile
with_left file script = record file { left = script }

-- an answer with the flow behind it, or a refusal, which leaves the flow as it was
abbrev pub Outcome : Type 0 → Type 0
Outcome X = Result (X × FlowState) FlowRefusal

abbrev pub event_of : OpenFile → NumberedLine → FlowEvent
event_of file line = event.Line file.name line.number line.words

-- the flow behind a line of this file, with what is left of the file's script and the files that include it
abbrev pub behind_line : FlowState → OpenFile → NumberedLine → Script → List OpenFile → FlowState
behind_line flow file line script outer =
    record { file = with_left file script; outer = outer; skips = flow.skips; last = record { file = file.name; number = line.number }; count = flow.count + 1 }

-- a line with words is run where fewer than MAX_LINES were
abbrev pub run_line : FlowState → OpenFile → NumberedLine → Script → List OpenFile → Outcome FlowEvent
run_line flow file line script outer =
    cond (nat_lt flow.count MAX_LINES) (Ok (event_of file line, behind_line flow file line script outer)) (Err (Budget file.name line.number))

-- the next line of a script of this file, or its refusal; where there is neither, what follows
abbrev pub from_script : FlowState → OpenFile → List OpenFile → Option LineRefusal → List NumberedLine → Outcome FlowEvent → Outcome FlowEvent
from_script flow file outer refusal (line ∷ lines) over = run_line flow file line (record { lines = lines; refusal = refusal }) outer
from_script flow file outer (Some why) [] over = Err (Line file.name why)
from_script flow file outer None [] over = over

-- the last of some files, the first apart
abbrev pub outermost : OpenFile → List OpenFile → OpenFile
outermost file [] = file
outermost file (next ∷ outer) = outermost next outer

-- no file has a line left: the files that were included are closed
abbrev pub at_end : FlowState → FlowState
at_end flow = record flow { file = outermost flow.file flow.outer; outer = [] }

-- the next line of these files, the innermost first; a file that has none left is closed
abbrev pub stepped_in : FlowState → List OpenFile → Outcome FlowEvent
stepped_in flow [] = Ok (event.End, at_end flow)
stepped_in flow (file ∷ outer) = from_script flow file outer file.left.refusal file.left.lines (stepped_in flow outer)

-- the next line of a flow
abbrev pub stepped : FlowState → Outcome FlowEvent
stepped flow = stepped_in flow (flow.file ∷ flow.outer)

-- a line is one of the lines that a run may have, and counts; the end counts nothing
abbrev pub Counts : FlowEvent → FlowState → FlowState → Type 0
Counts (event.Line file number words) old new = (old.count < MAX_LINES) × (new.count ≡ old.count + 1)
Counts event.End old new = new.count ≡ old.count

-- the start of the file that a jump goes to: the innermost file itself, or another in its place
abbrev pub target : FlowState → Option (List ℕ × List ℕ) → OpenFile
target flow None = opened flow.file.name flow.file.text
target flow (Some other) = opened other.0 other.1

abbrev pub with_script : OpenFile → Result Script FlowRefusal → Result OpenFile FlowRefusal
with_script file (Ok script) = Ok (with_left file script)
with_script file (Err why) = Err why

-- a file from its start, or from behind a label on
abbrev pub at_label : OpenFile → Option (List ℕ) → Result OpenFile FlowRefusal
at_label file None = Ok file
at_label file (Some label) = with_script file (behind_label file.name label file.left)

abbrev pub gone_to : FlowState → Result OpenFile FlowRefusal → Outcome Bool
gone_to flow (Ok file) = Ok (true, in_file flow file)
gone_to flow (Err why) = Err why

abbrev pub skipping : FlowState → Bool → FlowState
skipping flow skips = record flow { skips = skips }

-- a jump, and whether it goes; a skipped one does nothing but clear the flag
abbrev pub jumped : FlowState → Option (List ℕ × List ℕ) → Option (List ℕ) → Outcome Bool
jumped flow other label = cond flow.skips (Ok (false, skipping flow false)) (gone_to flow (at_label (target flow other) label))

-- a file in front of the open ones, of which at most MAX_INCLUDES are included
abbrev pub included : FlowState → List ℕ → List ℕ → Result FlowState FlowRefusal
included flow name text =
    cond (nat_lt (length flow.outer) MAX_INCLUDES) (Ok (record flow { file = opened name text; outer = flow.file ∷ flow.outer })) (Err IncludeTooDeep)

-- a line that `if` runs: it counts under the number of the last line
abbrev pub counted : FlowState → Result FlowState FlowRefusal
counted flow = cond (nat_lt flow.count MAX_LINES) (Ok (record flow { count = flow.count + 1 })) (Err (Budget flow.last.file flow.last.number))
