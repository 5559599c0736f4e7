use Rattle.std.proofs.Common.{◌≡◌, length}
use Rattle.command_words.specs.Values.{last_place, value_place}
use Rattle.command_words.proofs.values.value_place.Given as goal

abbrev pub invariant-pairs : goal.invariant-pairs
invariant-pairs l = last_place l.option l.count l.found l.rest ≡ value_place l.option l.fn.from l.words

abbrev pub decreases-pairs : goal.decreases-pairs
decreases-pairs l = length l.rest
