-- The session.
use Rattle.std.specs.Prelude.{List}
use Rattle.command_words.specs.declared.session.SessionForm.{SessionForm}
use Rattle.command_words.specs.declared.session.SessionForm.TheVariants as form
use Rattle.command_words.specs.declared.session.TheConstants.{CLEAR, QUIT}
use Rattle.command_words.specs.declared.places.Place.{Place}
use Rattle.command_words.specs.declared.command.Command.{Command}
use Rattle.command_words.specs.declared.command.Command.TheVariants as command

-- the places of a form
abbrev pub places : SessionForm → List Place
places form.Clear = CLEAR.now
places form.Quit = QUIT.now

-- the command of a form
abbrev pub make : SessionForm → Command
make form.Clear = command.Clear
make form.Quit = command.Quit
