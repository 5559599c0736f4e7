use Rattle.std.proofs.Common.{◌≡◌, ◌≤◌, length, take}
use Rattle.fx_num.specs.Print.{without_last}
use Rattle.fx_num.proofs.print.kept_len.Given as goal

abbrev pub invariant-loop-kept : goal.invariant-loop-kept
invariant-loop-kept l = (l.kept ≤ length l.text) × (without_last l.last (take l.kept l.text) ≡ without_last l.last l.text)

abbrev pub decreases-loop-kept : goal.decreases-loop-kept
decreases-loop-kept l = l.kept
