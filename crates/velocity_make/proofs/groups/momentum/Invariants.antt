use Rattle.std.proofs.Common.{◌≡◌, ◌*◌, ◌^◌, ◌≤◌, take, unsigned_abs}
use Rattle.sums.specs.Totals.{total}
use Rattle.velocity_make.specs.Group.{of_group, momentum_of}
use Rattle.velocity_make.proofs.groups.momentum.Given as goal

abbrev pub invariant-loop-atom : goal.invariant-loop-atom
invariant-loop-atom l = (l.sum ≡ total (of_group l.ids (momentum_of l.mass l.axis)) (take l.atom-index l.atoms)) × (unsigned_abs l.sum ≤ l.atom-index * 2 ^ 62)
