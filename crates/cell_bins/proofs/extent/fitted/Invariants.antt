use Rattle.std.proofs.Common.{◌+◌, ◌^◌, ◌≤◌}
use Rattle.cell_bins.proofs.extent.fitted.Given as goal

abbrev pub invariant-loop-x : goal.invariant-loop-x
invariant-loop-x l = record {
  x : (3 ≤ l.x) × (l.x ≤ 2 ^ 34);
  y : (3 ≤ l.y) × (l.y ≤ 2 ^ 34);
  z : (3 ≤ l.z) × (l.z ≤ 2 ^ 34);
}

abbrev pub decreases-loop-x : goal.decreases-loop-x
decreases-loop-x l = l.x + l.y + l.z
