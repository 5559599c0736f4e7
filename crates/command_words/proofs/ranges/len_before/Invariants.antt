use Rattle.std.proofs.Common.{◌≡◌, ◌+◌, drop}
use Rattle.std.specs.List.{prefix_len}
use Rattle.command_words.specs.Ranges.{is_other}
use Rattle.command_words.proofs.ranges.len_before.Given as goal

abbrev pub invariant-loop-i : goal.invariant-loop-i
invariant-loop-i l = l.i + prefix_len (is_other l.mark) (drop l.i l.text) ≡ prefix_len (is_other l.mark) l.text
