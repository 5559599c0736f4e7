-- Neighbours.
use Rattle.std.specs.Prelude.{ℕ, pos, Result, Ok, List}
use Rattle.box_geo.specs.declared.limits.TheConstants.{MAX_CUTOFF, MAX_SKIN}
use Rattle.command_words.specs.Values.{number, then}
use Rattle.command_words.specs.declared.neighbors.NeighborsForm.{NeighborsForm}
use Rattle.command_words.specs.declared.neighbors.NeighborsForm.TheVariants as form
use Rattle.command_words.specs.declared.neighbors.TheConstants.{NEIGHBOR, NEIGH_MODIFY, COMM_MODIFY}
use Rattle.command_words.specs.declared.places.Place.{Place}
use Rattle.command_words.specs.declared.command.Command.{Command}
use Rattle.command_words.specs.declared.command.Command.TheVariants as command
use Rattle.command_words.specs.declared.refusal.WordRefusal.{WordRefusal}

-- the places of a form
abbrev pub places : NeighborsForm → List Place
places form.Neighbor = NEIGHBOR.now
places form.NeighModify = NEIGH_MODIFY.now
places form.CommModify = COMM_MODIFY.now

abbrev pub neighbor : List (List ℕ) → Result Command WordRefusal
neighbor words = then (number 1 (pos 0) MAX_SKIN words) (λ s. Ok (command.Neighbor s))

abbrev pub comm_modify : List (List ℕ) → Result Command WordRefusal
comm_modify words = then (number 2 (pos 0) MAX_CUTOFF words) (λ c. Ok (command.CommModify c))

-- the command of the words of a form
abbrev pub make : NeighborsForm → List (List ℕ) → Result Command WordRefusal
make form.Neighbor words = neighbor words
make form.NeighModify words = Ok command.NeighModify
make form.CommModify words = comm_modify words
