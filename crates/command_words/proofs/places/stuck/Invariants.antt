use Rattle.std.proofs.Common.{◌≡◌, drop}
use Rattle.command_words.specs.Places.{stuck}
use Rattle.command_words.proofs.places.stuck.Given as goal

abbrev pub invariant-loop-place : goal.invariant-loop-place
invariant-loop-place l = stuck (drop l.place-index l.places) l.rest ≡ stuck l.places l.fn.words
