use Rattle.std.proofs.Common.{◌≡◌, ◌+◌, drop}
use Rattle.std.specs.List.{prefix_len}
use Rattle.command_words.specs.Places.{takes}
use Rattle.command_words.proofs.places.count_taken.Given as goal

abbrev pub invariant-loop-i : goal.invariant-loop-i
invariant-loop-i l = l.i + prefix_len (takes l.kind) (drop l.i l.words) ≡ prefix_len (takes l.kind) l.words
