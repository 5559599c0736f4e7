use Rattle.std.proofs.Common.{◌≡◌, None, drop}
use Rattle.velocity_make.specs.Change.{changed_all, least_fast}
use Rattle.velocity_make.proofs.changes.least_fast.Given as goal

abbrev pub invariant-loop-atom : goal.invariant-loop-atom
invariant-loop-atom l = least_fast l.ids l.least (changed_all l.ids l.change (drop l.atom-index l.atoms)) ≡ least_fast l.ids None (changed_all l.ids l.change l.atoms)
