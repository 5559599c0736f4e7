use Rattle.std.proofs.Common.{◌≡◌, ◌≤◌, length, take}
use Rattle.velocity_make.specs.Group.{members}
use Rattle.velocity_make.proofs.groups.count.Given as goal

abbrev pub invariant-loop-atom : goal.invariant-loop-atom
invariant-loop-atom l = (l.count ≡ length (members l.ids (take l.atom-index l.atoms))) × (l.count ≤ l.atom-index)
