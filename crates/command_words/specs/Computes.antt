-- Computes.
use Rattle.std.specs.Prelude.{ℕ, List}
use Rattle.command_words.specs.Values.{word}
use Rattle.command_words.specs.declared.computes.ComputeStyle.{ComputeStyle}
use Rattle.command_words.specs.declared.computes.ComputeStyle.TheVariants as style
use Rattle.command_words.specs.declared.computes.ComputesForm.{ComputesForm}
use Rattle.command_words.specs.declared.computes.ComputesForm.TheVariants as form
use Rattle.command_words.specs.declared.computes.TheConstants.{COMPUTE_KE, COMPUTE_TEMP, COMPUTE_PE, COMPUTE_PRESSURE, UNCOMPUTE}
use Rattle.command_words.specs.declared.places.Place.{Place}
use Rattle.command_words.specs.declared.command.Command.{Command}
use Rattle.command_words.specs.declared.command.Command.TheVariants as command

-- the places of a form
abbrev pub places : ComputesForm → List Place
places form.ComputeKe = COMPUTE_KE.now
places form.ComputeTemp = COMPUTE_TEMP.now
places form.ComputePe = COMPUTE_PE.now
places form.ComputePressure = COMPUTE_PRESSURE.now
places form.Uncompute = UNCOMPUTE.now

abbrev pub new_compute : ComputeStyle → List (List ℕ) → Command
new_compute gives words = command.Compute record { id = word 1 words; group = word 2 words; style = gives }

-- the command of the words of a form
abbrev pub make : ComputesForm → List (List ℕ) → Command
make form.ComputeKe words = new_compute style.Ke words
make form.ComputeTemp words = new_compute style.Temp words
make form.ComputePe words = new_compute style.Pe words
make form.ComputePressure words = new_compute style.Pressure words
make form.Uncompute words = command.Uncompute (word 1 words)
