-- Steps and runs.
use Rattle.std.specs.Prelude.{Bool, true, false, ℕ, pos, Result, Ok, List}
use Rattle.box_geo.specs.declared.limits.TheConstants.{MAX_STEP, MAX_TIMESTEP}
use Rattle.command_words.specs.Values.{number, then, whole}
use Rattle.command_words.specs.declared.runs.RunsForm.{RunsForm}
use Rattle.command_words.specs.declared.runs.RunsForm.TheVariants as form
use Rattle.command_words.specs.declared.runs.TheConstants.{RUN, RUN_UPTO, TIMESTEP, RESET_TIMESTEP}
use Rattle.command_words.specs.declared.places.Place.{Place}
use Rattle.command_words.specs.declared.command.Command.{Command}
use Rattle.command_words.specs.declared.command.Command.TheVariants as command
use Rattle.command_words.specs.declared.refusal.WordRefusal.{WordRefusal}

-- the places of a form
abbrev pub places : RunsForm → List Place
places form.Run = RUN.now
places form.RunUpto = RUN_UPTO.now
places form.Timestep = TIMESTEP.now
places form.ResetTimestep = RESET_TIMESTEP.now

abbrev pub run_in : Bool → List (List ℕ) → Result Command WordRefusal
run_in upto words = then (whole 1 0 MAX_STEP words) (λ n. Ok (command.Run record { steps = n; upto = upto }))

abbrev pub timestep : List (List ℕ) → Result Command WordRefusal
timestep words = then (number 1 (pos 0) MAX_TIMESTEP words) (λ dt. Ok (command.Timestep dt))

abbrev pub reset_timestep : List (List ℕ) → Result Command WordRefusal
reset_timestep words = then (whole 1 0 MAX_STEP words) (λ n. Ok (command.ResetTimestep n))

-- the command of the words of a form
abbrev pub make : RunsForm → List (List ℕ) → Result Command WordRefusal
make form.Run words = run_in false words
make form.RunUpto words = run_in true words
make form.Timestep words = timestep words
make form.ResetTimestep words = reset_timestep words
