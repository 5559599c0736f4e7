-- What a command line asks for, and the texts that are no run.
use Rattle.std.specs.Prelude.{cond, ℕ, List, [], ◌∷◌, ◌++◌, codes}
use Rattle.std.specs.Str.{bytes_eq}
use Rattle.program.specs.declared.messages.TheConstants.{VERSION, USAGE, DETAILS}
use Rattle.program.specs.declared.request.Request.{Request}
use Rattle.program.specs.declared.request.Request.TheVariants.{Help, Version, Run}
use Rattle.program.specs.declared.words.Unread.{Unread}
use Rattle.program.specs.declared.words.Unread.TheVariants.{NotText, NoMemory}

-- `--help` or `--version` as the only word asks for that text; all else asks for a run
abbrev pub request_by : List ℕ → Request
request_by word = cond (bytes_eq word (codes "--help")) Help (cond (bytes_eq word (codes "--version")) Version Run)

abbrev pub request_of : List (List ℕ) → Request
request_of (word ∷ []) = request_by word
request_of words = Run

-- the text that `--help` prints: the version, the usage and the details
unfoldable pub help_text : List ℕ
help_text = VERSION.now ++ (USAGE.now ++ DETAILS.now)

-- the text that is printed in place of a run
abbrev pub text_for : Request → List ℕ
text_for Help = help_text
text_for Version = VERSION.now
text_for Run = []

-- the number with which the program exits whose words could not be read: a wrong command line, or want of memory
abbrev pub unread_number : Unread → ℕ
unread_number NotText = 7
unread_number NoMemory = 6
