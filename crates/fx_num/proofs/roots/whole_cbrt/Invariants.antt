use Rattle.std.proofs.Common.{◌-◌, ◌*◌, ◌^◌, ◌<◌, ◌≤◌}
use Rattle.fx_num.proofs.roots.whole_cbrt.Given as goal

abbrev pub invariant-loop-low : goal.invariant-loop-low
invariant-loop-low l = (l.low * l.low * l.low ≤ l.a) × (l.a < l.high * l.high * l.high) × (l.low < l.high) × (l.high ≤ 2 ^ 42)

abbrev pub decreases-loop-low : goal.decreases-loop-low
decreases-loop-low l = l.high - l.low
