-- Commands that lead a script elsewhere: `next`, `label`, `jump`, `include`, `if`. Each leaves the settings and how far the script is.
use Rattle.std.specs.Prelude.{◌++◌, Bool, true, false, cond, not, nat_lt, ℕ, Option, Some, None, Result, Ok, Err, List, [], ◌∷◌, length}
use Rattle.std.specs.List.{list_any}
use Rattle.box_geo.specs.declared.limits.TheConstants.{MAX_INCLUDES, MAX_SCRIPT_BYTES}
use Rattle.command_words.specs.declared.command.Command.{Command}
use Rattle.command_words.specs.declared.command.Command.TheVariants as command
use Rattle.command_words.specs.declared.flow.Branch.{Branch}
use Rattle.command_words.specs.declared.flow.Choice.{Choice}
use Rattle.command_words.specs.declared.flow.Jump.{Jump}
use Rattle.control_flow.specs.declared.refusals.FlowRefusal.{FlowRefusal}
use Rattle.control_flow.specs.declared.refusals.FlowRefusal.TheVariants as flow
use Rattle.control_flow.specs.Flow.{FlowState, included, jumped, skipping}
use Rattle.fx_num.specs.declared.faults.VarFault.{VarFault}
use Rattle.meaning.specs.declared.code.Code.{Code}
use Rattle.meaning.specs.declared.code.Code.TheVariants as code
use Rattle.meaning.specs.declared.progress.Progress.{Progress}
use Rattle.meaning.specs.declared.settings.Settings.{Settings}
use Rattle.meaning.specs.declared.uses.NameUse.{NameUse}
use Rattle.meaning.specs.declared.uses.UseKind.TheVariants.{Fetched}
use Rattle.meaning.specs.Commands.{outcome_of}
use Rattle.meaning.specs.Conditions.{condition}
use Rattle.meaning.specs.Outcome.{Outcome, Way, done, exceeds, quits, refuses, refuses_at, silent}
use Rattle.meaning.specs.Output.{with_uses}
use Rattle.meaning.specs.SystemFiles.{fetched}
use Rattle.meaning.specs.Uses.{names}
use Rattle.meaning.specs.Variables.{fault_code, with_vars}
use Rattle.outside.specs.declared.files.File.{File}
use Rattle.script_lines.specs.declared.refusals.LineRefusal.{LineRefusal}
use Rattle.script_lines.specs.declared.refusals.LineRefusal.TheVariants as line
use Rattle.var_table.specs.Variables.{all_next, is_exhausted, next_fault}

-- what a command comes to in a script: its outcome, and how far the script is behind it
pub record Moved : Type 0 where
  pub outcome : Outcome
  pub progress : Progress

-- a command that leads nowhere
abbrev pub stays : Progress → Outcome → Moved
stays p o = record { outcome = o; progress = p }

abbrev pub goes_to : Settings → Progress → Moved
goes_to s p = record { outcome = done s; progress = p }

-- a command that is refused, or not built yet
abbrev pub stops : Settings → Progress → Way → Moved
stops s p way = record { outcome = silent s way; progress = p }

abbrev pub in_flow : Progress → FlowState → Progress
in_flow p flow = record p { flow = flow }

-- a line of this file that cannot be read is refused under the file's name and its own number
abbrev pub unread_way : List ℕ → LineRefusal → Way
unread_way file (line.UnclosedQuote number) = refuses_at code.UnclosedQuote file number
unread_way file (line.ContinuationAtEnd number) = refuses_at code.ContinuationAtEnd file number
unread_way file (line.QuoteTail number) = refuses_at code.QuoteTail file number
unread_way file line.NoMemory = quits

-- how a script ends whose flow does not go on
abbrev pub flow_way : FlowRefusal → Way
flow_way (flow.Line file why) = unread_way file why
flow_way (flow.Budget file number) = exceeds file number
flow_way (flow.NoLabel label) = refuses code.NoLabel
flow_way flow.IncludeTooDeep = refuses code.IncludeTooDeep
flow_way flow.NoMemory = quits

-- `next`: the next value of each variable; where one had none, the next jump is skipped
abbrev pub flow_behind : Bool → FlowState → FlowState
flow_behind true flow = skipping flow true
flow_behind false flow = flow

abbrev pub next_by : List (List ℕ) → Settings → Progress → Option VarFault → Moved
next_by variables s p (Some fault) = stops s p (refuses (fault_code fault))
next_by variables s p None =
    goes_to (with_vars s (all_next variables s.vars)) (in_flow p (flow_behind (list_any (is_exhausted variables) s.vars) p.flow))

abbrev pub next : List (List ℕ) → Settings → Progress → Moved
next variables s p = next_by variables s p (next_fault s.vars variables)

-- the flow goes elsewhere, or it does not go on
abbrev pub led : Settings → Progress → Result FlowState FlowRefusal → Moved
led s p (Ok flow) = goes_to s (in_flow p flow)
led s p (Err why) = stops s p (flow_way why)

-- the text of a script's file, and the settings once the file's name is used, which is judged before the file is fetched
pub record Fetch : Type 0 where
  pub state : Settings
  pub text : Result (List ℕ) Code

abbrev pub fetch_by : List File → List ℕ → Settings → Result (List NameUse) Code → Fetch
fetch_by files name s (Ok uses) = record { state = with_uses s uses; text = fetched MAX_SCRIPT_BYTES files name }
fetch_by files name s (Err why) = record { state = s; text = Err why }

abbrev pub script_fetched : List File → List ℕ → Settings → Fetch
script_fetched files name s = fetch_by files name s (names Fetched name s.output.uses)

-- the flow changes by the text of a script
abbrev pub led_by_text : (List ℕ → Result FlowState FlowRefusal) → Settings → Progress → Result (List ℕ) Code → Moved
led_by_text change s p (Ok text) = led s p (change text)
led_by_text change s p (Err why) = stops s p (refuses why)

abbrev pub led_by : (List ℕ → Result FlowState FlowRefusal) → Progress → Fetch → Moved
led_by change p fetch = led_by_text change fetch.state p fetch.text

-- `jump`: into the innermost file or another in its place, at its start or behind a label
abbrev pub behind_jump : Result (Bool × FlowState) FlowRefusal → Result FlowState FlowRefusal
behind_jump (Ok answer) = Ok answer.1
behind_jump (Err why) = Err why

abbrev pub into_file : FlowState → Option (List ℕ) → List ℕ → List ℕ → Result FlowState FlowRefusal
into_file flow label name text = behind_jump (jumped flow (Some (name, text)) label)

abbrev pub jump_to : List File → Option (List ℕ) → Settings → Progress → Option (List ℕ) → Moved
jump_to files label s p None = led s p (behind_jump (jumped p.flow None label))
jump_to files label s p (Some name) = led_by (into_file p.flow label name) p (script_fetched files name s)

-- a jump that is skipped only clears the flag: its file is neither used nor fetched
abbrev pub jump : List File → Jump → Settings → Progress → Moved
jump files j s p = cond p.flow.skips (goes_to s (in_flow p (skipping p.flow false))) (jump_to files j.label s p j.file)

-- `include`: a file before what is left of the present one. Whether one more may be open is judged before its name.
abbrev pub include : List File → List ℕ → Settings → Progress → Moved
include files name s p =
    cond (nat_lt (length p.flow.outer) MAX_INCLUDES) (led_by (included p.flow name) p (script_fetched files name s)) (stops s p (refuses code.IncludeTooDeep))

-- `if`: the commands of the first condition that holds, else the others. Behind one that holds no condition is looked at.
abbrev pub chosen_by : List (List ℕ) → Result Bool Code → Result (List (List ℕ)) Code → Result (List (List ℕ)) Code
chosen_by commands (Ok true) others = Ok commands
chosen_by commands (Ok false) others = others
chosen_by commands (Err why) others = Err why

abbrev pub chosen_from : Settings → List Branch → List (List ℕ) → Result (List (List ℕ)) Code
chosen_from s [] otherwise = Ok otherwise
chosen_from s (b ∷ branches) otherwise = chosen_by b.commands (condition s b.condition) (chosen_from s branches otherwise)

abbrev pub chosen : Settings → Choice → Result (List (List ℕ)) Code
chosen s choice = chosen_from s choice.branches choice.otherwise

-- they are run before the next line, and before what an earlier `if` still runs
abbrev pub runs_before : Settings → Progress → Result (List (List ℕ)) Code → Moved
runs_before s p (Ok commands) = goes_to s (record p { pending = commands ++ p.pending })
runs_before s p (Err why) = stops s p (refuses why)

abbrev pub if_holds : Choice → Settings → Progress → Moved
if_holds choice s p = runs_before s p (chosen s choice)

-- a command of a script
abbrev pub moved : List File → Command → Settings → Progress → Moved
moved files (command.Next variables) s p = next variables s p
moved files (command.Label name) s p = goes_to s p
moved files (command.Jump j) s p = jump files j s p
moved files (command.Include name) s p = include files name s p
moved files (command.If choice) s p = if_holds choice s p
moved files c s p = stays p (outcome_of files c s)
