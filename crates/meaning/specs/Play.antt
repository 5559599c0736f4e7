-- What a script means: its lines one after another, through its files, up to their end, `quit`, or the first line that is refused; then the line of the error.
use Rattle.std.specs.Prelude.{◌+◌, ℕ, zero, suc, Option, Some, None, Result, Ok, Err, List, [], ◌∷◌, ◌++◌}
use Rattle.box_geo.specs.declared.fault.FaultKey.{FaultKey}
use Rattle.box_geo.specs.declared.limits.TheConstants.{MAX_LINES}
use Rattle.control_flow.specs.declared.event.FlowEvent.{FlowEvent}
use Rattle.control_flow.specs.declared.event.FlowEvent.TheVariants as event
use Rattle.control_flow.specs.declared.refusals.FlowRefusal.{FlowRefusal}
use Rattle.control_flow.specs.Flow.{FlowState, LineName, counted, started, stepped}
use Rattle.log_output.specs.Errors.{budget_text, fault_text, refusal_text}
use Rattle.meaning.specs.declared.code.Code.{Code}
use Rattle.meaning.specs.declared.code.Code.TheVariants as code
use Rattle.meaning.specs.declared.output.Output.{Output}
use Rattle.meaning.specs.declared.progress.Progress.{Progress}
use Rattle.meaning.specs.declared.settings.Settings.{Settings}
use Rattle.meaning.specs.Codes.{code_name}
use Rattle.meaning.specs.Flow.{Moved, flow_way}
use Rattle.meaning.specs.Lines.{line_moved}
use Rattle.meaning.specs.Outcome.{Outcome, Way, exceeds, fails, goes, quits, refuses, refuses_at, unbuilt}
use Rattle.meaning.specs.Shown.{shown}
use Rattle.outside.specs.declared.files.File.{File}
use Rattle.outside.specs.declared.press.Piece.{Piece}
use Rattle.script_lines.specs.declared.refusals.LineRefusal.{LineRefusal}
use Rattle.script_lines.specs.declared.refusals.LineRefusal.TheVariants.{ContinuationAtEnd, NoMemory, QuoteTail, UnclosedQuote}
use Rattle.script_lines.specs.declared.words.RawWord.{RawWord}
use Rattle.script_lines.specs.Script.{NumberedLine, script_from}

-- how a script ends: it was run; or a line was refused with a code; or a line is one more than may be run; or a quantity left its range at a step; or a line
-- is not built yet
pub data End : Type 0 where
  complete : End
  refused_at : Code → List ℕ → ℕ → End
  budget_at : List ℕ → ℕ → End
  failed_at : FaultKey → ℕ → End
  unbuilt_at : List ℕ → ℕ → End

-- what a script sends, how it ends, and how many terms of pairs it sums
pub record Played : Type 0 where
  pub pieces : List Piece
  pub end : End
  pub pairs : ℕ

abbrev pub ends_with : End → Played
ends_with end = record { pieces = []; end = end; pairs = 0 }

-- the end of a script, behind the line of its error
abbrev pub ends_telling : Output → List ℕ → End → Played
ends_telling o text end = record { pieces = (shown o text o.uses).pieces; end = end; pairs = 0 }

abbrev pub refused_line : Output → List ℕ → ℕ → Code → Played
refused_line o file line why = ends_telling o (refusal_text (code_name why) file line) (refused_at why file line)

-- what a command sends and sums, and then the rest
abbrev pub after : Outcome → Played → Played
after o rest = record { pieces = o.pieces ++ rest.pieces; end = rest.end; pairs = o.pairs + rest.pairs }

-- how the script goes on behind a line
abbrev pub goes_by : Way → Output → LineName → Played → Played
goes_by goes o at rest = rest
goes_by quits o at rest = ends_with complete
goes_by (refuses why) o at rest = refused_line o at.file at.number why
goes_by (refuses_at why file number) o at rest = refused_line o file number why
goes_by (exceeds file number) o at rest = ends_telling o (budget_text file number) (budget_at file number)
goes_by (fails key step) o at rest = ends_telling o (fault_text key step) (failed_at key step)
goes_by unbuilt o at rest = ends_with (unbuilt_at at.file at.number)

-- a line to be run, and how far the script is behind it. It stands at the last line of the flow.
pub record Line : Type 0 where
  pub words : List RawWord
  pub progress : Progress

abbrev pub line_of : List RawWord → FlowState → List (List ℕ) → Option Line
line_of words flow pending = Some record { words = words; progress = record { flow = flow; pending = pending } }

-- a command that an `if` runs is read as a line, and counts as one
abbrev pub counted_line : List RawWord → List (List ℕ) → Result FlowState FlowRefusal → Result (Option Line) Way
counted_line words pending (Ok flow) = Ok (line_of words flow pending)
counted_line words pending (Err why) = Err (flow_way why)

abbrev pub unread_code : LineRefusal → Way
unread_code (UnclosedQuote number) = refuses code.UnclosedQuote
unread_code (ContinuationAtEnd number) = refuses code.ContinuationAtEnd
unread_code (QuoteTail number) = refuses code.QuoteTail
unread_code NoMemory = quits

-- the words of the first line of a text that has any, or why it cannot be read
abbrev pub first_words : Option LineRefusal → List NumberedLine → Result (Option (List RawWord)) Way
first_words refusal (line ∷ lines) = Ok (Some line.words)
first_words (Some why) [] = Err (unread_code why)
first_words None [] = Ok None

abbrev pub command_words : List ℕ → Result (Option (List RawWord)) Way
command_words text = first_words (script_from 1 text).refusal (script_from 1 text).lines

-- a command without words runs nothing
abbrev pub command_line : FlowState → List (List ℕ) → Result (Option (List RawWord)) Way → Result (Option Line) Way → Result (Option Line) Way
command_line flow pending (Ok (Some words)) others = counted_line words pending (counted flow)
command_line flow pending (Ok None) others = others
command_line flow pending (Err way) others = Err way

-- the next line of the files
abbrev pub file_line : Result (FlowEvent × FlowState) FlowRefusal → Result (Option Line) Way
file_line (Ok (event.Line file number words, flow)) = Ok (line_of words flow [])
file_line (Ok (event.End, flow)) = Ok None
file_line (Err why) = Err (flow_way why)

-- the next line: of the commands of an `if`, and behind these of the files
abbrev pub next_line : FlowState → List (List ℕ) → Result (Option Line) Way
next_line flow [] = file_line (stepped flow)
next_line flow (text ∷ pending) = command_line flow pending (command_words text) (next_line flow pending)

-- a line that stands here is carried out, and then the rest
abbrev pub played_after : Moved → LineName → (Settings → Progress → Played) → Played
played_after m at rest = after m.outcome (goes_by m.outcome.way m.outcome.state.output at (rest m.outcome.state m.progress))

abbrev pub played_line : List File → Settings → FlowState → Result (Option Line) Way → (Settings → Progress → Played) → Played
played_line files s flow (Ok (Some line)) rest = played_after (line_moved files s line.progress line.words) line.progress.flow.last rest
played_line files s flow (Ok None) rest = ends_with complete
played_line files s flow (Err way) rest = goes_by way s.output flow.last (ends_with complete)

-- at most so many lines. A script runs at most MAX_LINES, so behind one more there is none.
unfoldable pub played : ℕ → List File → Settings → Progress → Played
played zero files s p = ends_with complete
played (suc lines) files s p = played_line files s p.flow (next_line p.flow p.pending) (played lines files)

-- the script of a file of this name and text
abbrev pub begun : List ℕ → List ℕ → Progress
begun file text = record { flow = started file text; pending = [] }

abbrev pub play : List File → List ℕ → List ℕ → Settings → Played
play files file text s = played (MAX_LINES + 1) files s (begun file text)
