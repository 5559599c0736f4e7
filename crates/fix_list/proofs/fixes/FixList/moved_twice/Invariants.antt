use Rattle.std.proofs.Common.{◌≡◌, drop, None}
use Rattle.fix_list.specs.Least.{least_over}
use Rattle.fix_list.proofs.fixes.FixList.moved_twice.Given as goal

abbrev pub invariant-loop-named : goal.invariant-loop-named
invariant-loop-named l = least_over l.named-items (drop l.named-index l.named-items) l.least ≡ least_over l.named-items l.named-items None
