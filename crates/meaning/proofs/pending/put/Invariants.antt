use Rattle.std.proofs.Common.{◌≡◌, ◌++◌, length, reverse}
use Rattle.meaning.proofs.pending.put.Given as goal

abbrev pub invariant-loop-text : goal.invariant-loop-text
invariant-loop-text l = l.texts.items ++ reverse l.reversed.items ≡ l.fn.texts.items ++ reverse l.fn.reversed.items

abbrev pub decreases-loop-text : goal.decreases-loop-text
decreases-loop-text l = length l.texts.items
