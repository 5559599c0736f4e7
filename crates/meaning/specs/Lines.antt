-- What a line of a script means: its words get what stands for their names, they are read as a command, and it is carried out.
use Rattle.std.specs.Prelude.{ℕ, Result, Ok, Err, List, [], ◌∷◌}
use Rattle.command_words.specs.declared.command.Command.{Command}
use Rattle.command_words.specs.declared.refusal.WordRefusal.{WordRefusal}
use Rattle.command_words.specs.declared.refusal.WordRefusal.TheVariants as word
use Rattle.command_words.specs.Read.{read}
use Rattle.meaning.specs.declared.code.Code.{Code}
use Rattle.meaning.specs.declared.code.Code.TheVariants as code
use Rattle.meaning.specs.declared.settings.Settings.{Settings}
use Rattle.meaning.specs.declared.progress.Progress.{Progress}
use Rattle.meaning.specs.Flow.{Moved, moved, stops}
use Rattle.meaning.specs.Outcome.{Way, refuses, unbuilt}
use Rattle.meaning.specs.Variables.{coded, table_of}
use Rattle.outside.specs.declared.files.File.{File}
use Rattle.script_lines.specs.declared.words.RawWord.{RawWord}
use Rattle.script_lines.specs.Substitution.{substitution}

-- the code of words that are no command
abbrev pub word_code : WordRefusal → Code
word_code word.UnknownCommand = code.UnknownCommand
word_code word.WordCount = code.WordCount
word_code (word.BadWord place) = code.BadWord
word_code (word.BadValue place) = code.BadValue
word_code word.NoMemory = code.UnknownCommand

abbrev pub read_command : Result Command WordRefusal → Result Command Way
read_command (Ok command) = Ok command
read_command (Err why) = Err (refuses (word_code why))

-- a line that has no word left names no command
abbrev pub words_command : List (List ℕ) → Result Command Way
words_command [] = Err (refuses code.UnknownCommand)
words_command (w ∷ words) = read_command (read (w ∷ words))

abbrev pub substituted_command : Result (List (List ℕ)) Code → Result Command Way
substituted_command (Ok words) = words_command words
substituted_command (Err why) = Err (refuses why)

-- the command of a line
unfoldable pub line_command : Settings → List RawWord → Result Command Way
line_command s words = substituted_command (coded (substitution (table_of s) words))

-- it is carried out
abbrev pub moved_by : List File → Settings → Progress → Result Command Way → Moved
moved_by files s p (Ok command) = moved files command s p
moved_by files s p (Err way) = stops s p way

abbrev pub line_moved : List File → Settings → Progress → List RawWord → Moved
line_moved files s p words = moved_by files s p (line_command s words)
