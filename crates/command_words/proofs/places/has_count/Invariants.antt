use Rattle.std.proofs.Common.{◌≡◌, drop}
use Rattle.command_words.specs.Places.{has_count}
use Rattle.command_words.proofs.places.has_count.Given as goal

abbrev pub invariant-loop-place : goal.invariant-loop-place
invariant-loop-place l = has_count (drop l.place-index l.places) l.left ≡ has_count l.places l.fn.count
