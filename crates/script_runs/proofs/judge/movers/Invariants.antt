use Rattle.std.proofs.Common.{◌≡◌, ◌≤◌, ◌+◌, drop}
use Rattle.fix_list.specs.Fixes.{movers}
use Rattle.script_runs.proofs.judge.movers.Given as goal

abbrev pub invariant-loop-named : goal.invariant-loop-named
invariant-loop-named l = (l.count ≤ l.named-index) × (l.count + movers (drop l.named-index l.fixes) l.id ≡ movers l.fixes l.id)
