-- A script: a text is cut into its physical lines, these are joined, and the logical lines are cut into words.
use Rattle.std.specs.Prelude.{◌≡◌, ◌+◌, ◌<◌, ◌≤◌, ℕ, Option, Some, None, Result, Ok, Err, List, [], ◌∷◌, take, drop}
use Rattle.script_lines.specs.declared.refusals.LineRefusal.{LineRefusal}
use Rattle.script_lines.specs.declared.refusals.LineRefusal.TheVariants.{UnclosedQuote, ContinuationAtEnd, QuoteTail, NoMemory}
use Rattle.script_lines.specs.declared.script.LineResult.{LineResult}
use Rattle.script_lines.specs.declared.script.LineResult.TheVariants.{End, Line}
use Rattle.script_lines.specs.declared.script.ScriptLine.{ScriptLine}
use Rattle.script_lines.specs.declared.words.RawWord.{RawWord}
use Rattle.script_lines.specs.Joining.{Logical, logical_lines, unfinished, whole}
use Rattle.script_lines.specs.Physical.{feeds, physical_lines}
use Rattle.script_lines.specs.Words.{line_words}

-- a line with words, and the number of its first physical line
pub record NumberedLine : Type 0 where
  pub number : ℕ
  pub words : List RawWord

-- the lines with words, in order, up to the first line that cannot be read
pub record Script : Type 0 where
  pub lines : List NumberedLine
  pub refusal : Option LineRefusal

abbrev pub no_lines : Script
no_lines = record { lines = []; refusal = None }

abbrev pub refused_by : LineRefusal → Script
refused_by why = record { lines = []; refusal = Some why }

abbrev pub with_line : ℕ → List RawWord → Script → Script
with_line number words script =
    record { lines = record { number = number; words = words } ∷ script.lines; refusal = script.refusal }

-- a line before a script: one without words does nothing
abbrev pub before_script : ℕ → Result (List RawWord) LineRefusal → Script → Script
before_script number (Ok []) script = script
before_script number (Ok (word ∷ words)) script = with_line number (word ∷ words) script
before_script number (Err why) script = refused_by why

abbrev pub script_of : List Logical → Script
script_of [] = no_lines
script_of (whole number text ∷ lines) = before_script number (line_words number text) (script_of lines)
script_of (unfinished number ∷ lines) = refused_by (ContinuationAtEnd number)

-- the script of a text whose first line has this number
abbrev pub script_from : ℕ → List ℕ → Script
script_from number text = script_of (logical_lines number (physical_lines text))

-- the script of a text from a place on
abbrev pub script_at : List ℕ → ℕ → Script
script_at text at = script_from (feeds (take at text) + 1) (drop at text)

-- the next line of a script and the script behind it, or its end
abbrev pub IsNextLine : List ℕ → Option ScriptLine → Script → Type 0
IsNextLine text (Some line) script = script ≡ with_line line.number line.words (script_at text line.next.at)
IsNextLine text None script = script ≡ no_lines

abbrev pub IsNext : List ℕ → LineResult → Script → Type 0
IsNext text (Line number next words) script = script ≡ with_line number words (script_at text next)
IsNext text End script = script ≡ no_lines

-- a line ends behind the place that it is read from, within the text
abbrev pub IsFarther : ℕ → ℕ → LineResult → Type 0
IsFarther at size (Line number next words) = (at < next) × (next ≤ size)
IsFarther at size End = Unit {0}

-- a script is refused before its first line; want of memory may come wherever
abbrev pub Refuses : LineRefusal → Script → Type 0
Refuses (UnclosedQuote number) script = script ≡ refused_by (UnclosedQuote number)
Refuses (ContinuationAtEnd number) script = script ≡ refused_by (ContinuationAtEnd number)
Refuses (QuoteTail number) script = script ≡ refused_by (QuoteTail number)
Refuses NoMemory script = Unit {0}
