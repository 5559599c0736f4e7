use Rattle.std.proofs.Common.{◌≡◌, drop}
use Rattle.fix_list.specs.Fixes.{moves}
use Rattle.fix_list.proofs.fixes.FixList.moves.Given as goal

abbrev pub invariant-loop-named : goal.invariant-loop-named
invariant-loop-named l = moves (drop l.named-index l.named-items) l.id ≡ moves l.named-items l.id
