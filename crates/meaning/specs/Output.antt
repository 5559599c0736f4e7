-- `print` and `log`.
use Rattle.std.specs.Prelude.{ℕ, Option, Some, None, Result, Ok, Err, List, ◌++◌, codes}
use Rattle.meaning.specs.declared.code.Code.{Code}
use Rattle.meaning.specs.declared.settings.Settings.{Settings}
use Rattle.meaning.specs.declared.uses.NameUse.{NameUse}
use Rattle.meaning.specs.declared.uses.UseKind.TheVariants.{Put}
use Rattle.meaning.specs.Outcome.{Outcome, goes, refused}
use Rattle.meaning.specs.Shown.{Shown, shown}
use Rattle.meaning.specs.Uses.{names}
use Rattle.meaning.specs.Variables.{text_of}

abbrev pub with_uses : Settings → List NameUse → Settings
with_uses s uses = record s { output = record s.output { uses = uses } }

-- a text and a line feed
abbrev pub line_of : List ℕ → List ℕ
line_of text = text ++ codes "\n"

abbrev pub line_in : Result (List ℕ) Code → Result (List ℕ) Code
line_in (Ok text) = Ok (line_of text)
line_in (Err why) = Err why

abbrev pub after_shown : Settings → Shown → Outcome
after_shown s first = record { pieces = first.pieces; state = with_uses s first.uses; way = goes; pairs = 0 }

abbrev pub printed : Settings → Result (List ℕ) Code → Outcome
printed s (Ok line) = after_shown s (shown s.output line s.output.uses)
printed s (Err why) = refused s why

-- `print`: the text with what stands for its names, on a line of its own
abbrev pub print : List ℕ → Settings → Outcome
print text s = printed s (line_in (text_of s text))

-- `log`: texts of the log go to another file from now on, or with `none` to no file
abbrev pub log_to : List ℕ → Settings → Result (List NameUse) Code → Result Settings Code
log_to name s (Ok uses) = Ok (record s { output = record s.output { log = Some name; uses = uses } })
log_to name s (Err why) = Err why

abbrev pub log : Option (List ℕ) → Settings → Result Settings Code
log (Some name) s = log_to name s (names Put name s.output.uses)
log None s = Ok (record s { output = record s.output { log = None } })
