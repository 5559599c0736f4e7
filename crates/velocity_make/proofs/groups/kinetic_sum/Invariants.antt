use Rattle.std.proofs.Common.{◌≡◌, ◌*◌, ◌^◌, ◌≤◌, pos, take}
use Rattle.sums.specs.Totals.{total}
use Rattle.computes.specs.Quantities.{kinetic_of}
use Rattle.velocity_make.specs.Group.{of_group}
use Rattle.velocity_make.proofs.groups.kinetic_sum.Given as goal

abbrev pub invariant-loop-atom : goal.invariant-loop-atom
invariant-loop-atom l = (pos l.sum ≡ total (of_group l.ids (kinetic_of l.mass)) (take l.atom-index l.atoms)) × (l.sum ≤ l.atom-index * (3 * 2 ^ 94))
