use Rattle.std.proofs.Common.{◌≡◌, ◌*◌, ◌^◌, ◌≤◌, pos, take}
use Rattle.sums.specs.Totals.{total}
use Rattle.computes.specs.Quantities.{kinetic_of}
use Rattle.computes.proofs.kinetic.kinetic_sum.Given as goal

abbrev pub invariant-loop-atom : goal.invariant-loop-atom
invariant-loop-atom l = (pos l.sum ≡ total (kinetic_of l.mass) (take l.atom-index l.atoms)) × (l.sum ≤ l.atom-index * (3 * 2 ^ 94))
