use Rattle.std.proofs.Common.{◌≡◌, drop}
use Rattle.fix_list.specs.Fixes.{has_name}
use Rattle.fix_list.proofs.fixes.FixList.has_name.Given as goal

abbrev pub invariant-loop-named : goal.invariant-loop-named
invariant-loop-named l = has_name (drop l.named-index l.named-items) l.name ≡ has_name l.named-items l.name
