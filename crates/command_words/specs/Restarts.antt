-- Restart files.
use Rattle.std.specs.Prelude.{cond, ℕ, Some, None, Result, Ok, Err, List}
use Rattle.std.specs.Str.{bytes_eq}
use Rattle.command_words.specs.Values.{count, then, word}
use Rattle.command_words.specs.declared.restarts.RestartsForm.{RestartsForm}
use Rattle.command_words.specs.declared.restarts.RestartsForm.TheVariants as form
use Rattle.command_words.specs.declared.restarts.TheConstants.{RESTART_OFF, RESTART, WRITE_RESTART, READ_RESTART, READ_RESTART_NEWER}
use Rattle.command_words.specs.declared.places.Place.{Place}
use Rattle.command_words.specs.declared.command.Command.{Command}
use Rattle.command_words.specs.declared.command.Command.TheVariants as command
use Rattle.command_words.specs.declared.refusal.WordRefusal.{WordRefusal}
use Rattle.command_words.specs.declared.refusal.WordRefusal.TheVariants.{BadWord}

-- the places of a form
abbrev pub places : RestartsForm → List Place
places form.RestartOff = RESTART_OFF.now
places form.Restart = RESTART.now
places form.WriteRestart = WRITE_RESTART.now
places form.ReadRestart = READ_RESTART.now
places form.ReadRestartNewer = READ_RESTART_NEWER.now

-- the two files of `restart` differ: with the name of the first one, the words begin no form
abbrev pub restart : List (List ℕ) → Result Command WordRefusal
restart words =
    cond (bytes_eq (word 2 words) (word 3 words)) (Err (BadWord 3))
    (then (count 1 words) (λ n. Ok (command.Restart (Some record { every = n; first = word 2 words; second = word 3 words }))))

abbrev pub read_one : List (List ℕ) → Command
read_one words = command.ReadRestart record { first = word 1 words; second = None }

abbrev pub read_newer : List (List ℕ) → Command
read_newer words = command.ReadRestart record { first = word 1 words; second = Some (word 2 words) }

-- the command of the words of a form
abbrev pub make : RestartsForm → List (List ℕ) → Result Command WordRefusal
make form.RestartOff words = Ok (command.Restart None)
make form.Restart words = restart words
make form.WriteRestart words = Ok (command.WriteRestart (word 1 words))
make form.ReadRestart words = Ok (read_one words)
make form.ReadRestartNewer words = Ok (read_newer words)
