use Rattle.std.proofs.Common.{◌≡◌, ◌*◌, ◌^◌, ◌≤◌, pos, take}
use Rattle.sums.specs.Totals.{total}
use Rattle.velocity_make.specs.Group.{of_group, mass_of}
use Rattle.velocity_make.proofs.groups.whole_mass.Given as goal

abbrev pub invariant-loop-atom : goal.invariant-loop-atom
invariant-loop-atom l = (pos l.sum ≡ total (of_group l.ids (mass_of l.mass)) (take l.atom-index l.atoms)) × (l.sum ≤ l.atom-index * 2 ^ 30)
