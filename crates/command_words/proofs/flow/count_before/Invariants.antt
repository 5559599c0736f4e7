use Rattle.std.proofs.Common.{◌≡◌, ◌+◌, drop}
use Rattle.std.specs.List.{prefix_len}
use Rattle.command_words.specs.Flow.{is_other}
use Rattle.command_words.proofs.flow.count_before.Given as goal

abbrev pub invariant-loop-i : goal.invariant-loop-i
invariant-loop-i l = l.i + prefix_len (is_other l.wanted) (drop l.i l.words) ≡ prefix_len (is_other l.wanted) l.words
