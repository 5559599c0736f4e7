use Rattle.std.proofs.Common.{◌<◌, ℕ, length, get_or}
use Rattle.part_tests.proofs.fixes.rise.Given as goal

abbrev pub invariant-loop-i : goal.invariant-loop-i
invariant-loop-i l = (a b : ℕ) → a < b → b < l.i → b < length l.ids → get_or l.ids a 0 < get_or l.ids b 0
