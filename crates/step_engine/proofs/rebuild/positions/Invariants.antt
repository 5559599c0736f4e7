use Rattle.std.proofs.Common.{◌≡◌, take}
use Rattle.serial_step.specs.Rebuild.{positions}
use Rattle.step_engine.proofs.rebuild.positions.Given as goal

abbrev pub invariant-loop-atom : goal.invariant-loop-atom
invariant-loop-atom l = l.list.items ≡ positions (take l.atom-index l.atoms)
