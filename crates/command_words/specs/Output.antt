-- Output.
use Rattle.std.specs.Prelude.{cond, ℕ, Option, Some, None, List}
use Rattle.command_words.specs.Values.{is_word, word}
use Rattle.command_words.specs.declared.vocabulary.Word.TheVariants as name
use Rattle.command_words.specs.declared.output.OutputForm.{OutputForm}
use Rattle.command_words.specs.declared.output.OutputForm.TheVariants as form
use Rattle.command_words.specs.declared.output.TheConstants.{PRINT, LOG}
use Rattle.command_words.specs.declared.places.Place.{Place}
use Rattle.command_words.specs.declared.command.Command.{Command}
use Rattle.command_words.specs.declared.command.Command.TheVariants as command

-- the places of a form
abbrev pub places : OutputForm → List Place
places form.Print = PRINT.now
places form.Log = LOG.now

-- the name of the log's file; none for `none`
abbrev pub log_file : List (List ℕ) → Option (List ℕ)
log_file words = cond (is_word name.None 1 words) None (Some (word 1 words))

-- the command of the words of a form
abbrev pub make : OutputForm → List (List ℕ) → Command
make form.Print words = command.Print (word 1 words)
make form.Log words = command.Log (log_file words)
