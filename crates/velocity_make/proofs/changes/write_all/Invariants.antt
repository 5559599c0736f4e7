use Rattle.std.proofs.Common.{◌≡◌, ◌++◌, take, drop}
use Rattle.velocity_make.specs.Change.{changed_all}
use Rattle.velocity_make.proofs.changes.write_all.Given as goal

abbrev pub invariant-loop-atom : goal.invariant-loop-atom
invariant-loop-atom l = l.atoms ≡ changed_all l.ids l.change (take l.atom-index l.fn.atoms) ++ drop l.atom-index l.fn.atoms
