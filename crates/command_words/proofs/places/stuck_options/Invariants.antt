use Rattle.std.proofs.Common.{◌≡◌, length}
use Rattle.command_words.specs.Places.{stuck_options}
use Rattle.command_words.proofs.places.stuck_options.Given as goal

abbrev pub invariant-pairs : goal.invariant-pairs
invariant-pairs l = stuck_options l.choices l.rest ≡ stuck_options l.choices l.fn.words

abbrev pub decreases-pairs : goal.decreases-pairs
decreases-pairs l = length l.rest
