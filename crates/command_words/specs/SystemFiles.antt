-- Data files.
use Rattle.std.specs.Prelude.{ℕ, List}
use Rattle.command_words.specs.Values.{word}
use Rattle.command_words.specs.declared.system_files.SystemFilesForm.{SystemFilesForm}
use Rattle.command_words.specs.declared.system_files.SystemFilesForm.TheVariants as form
use Rattle.command_words.specs.declared.system_files.TheConstants.{READ_DATA, WRITE_DATA}
use Rattle.command_words.specs.declared.places.Place.{Place}
use Rattle.command_words.specs.declared.command.Command.{Command}
use Rattle.command_words.specs.declared.command.Command.TheVariants as command

-- the places of a form
abbrev pub places : SystemFilesForm → List Place
places form.ReadData = READ_DATA.now
places form.WriteData = WRITE_DATA.now

-- the command of the words of a form
abbrev pub make : SystemFilesForm → List (List ℕ) → Command
make form.ReadData words = command.ReadData (word 1 words)
make form.WriteData words = command.WriteData (word 1 words)
