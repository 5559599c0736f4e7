use Rattle.std.proofs.Common.{◌≡◌, ◌++◌, drop}
use Rattle.run_settings.specs.Members.{marked}
use Rattle.run_settings.proofs.members.marked.Given as goal

abbrev pub invariant-loop-i : goal.invariant-loop-i
invariant-loop-i l = l.kept ++ marked (drop l.i l.marks) (drop l.i l.ids) ≡ marked l.marks l.ids
