use Rattle.std.proofs.Common.{◌≡◌, ◌≤◌, ◌+◌, ℕ, Bool, List, drop, length}
use Rattle.script_lines.specs.Modes.{closings, surplus}
use Rattle.script_lines.proofs.words.closings.Given as goal

-- the flags and the surplus from the byte on
pub record Behind (flags : List Bool) (count : ℕ) (i : ℕ) (line : List ℕ) : Type 0 where
  pub flags_are : flags ≡ closings (drop i line)
  pub surplus_is : count ≡ surplus (drop i line)
  pub bound : count + i ≤ length line

abbrev pub invariant-loop-i : goal.invariant-loop-i
invariant-loop-i l = Behind l.flags l.surplus l.i l.line

abbrev pub decreases-loop-i : goal.decreases-loop-i
decreases-loop-i l = l.i
