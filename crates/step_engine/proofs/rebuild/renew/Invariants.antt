use Rattle.std.proofs.Common.{◌≡◌, ◌++◌, take, drop}
use Rattle.serial_step.specs.Rebuild.{positions}
use Rattle.step_engine.proofs.rebuild.renew.Given as goal

abbrev pub invariant-loop-i : goal.invariant-loop-i
invariant-loop-i l = l.references ≡ positions (take l.i l.atoms) ++ drop l.i l.initial.references
