use Rattle.std.proofs.Common.{◌≡◌, ◌++◌, map, take, drop}
use Rattle.serial_step.specs.Forces.{with_force}
use Rattle.step_engine.specs.Rows.{no_force}
use Rattle.step_engine.proofs.pairs.clear_forces.Given as goal

abbrev pub invariant-loop-atom : goal.invariant-loop-atom
invariant-loop-atom l = l.atoms ≡ map (λ a. with_force a no_force) (take l.atom-index l.fn.atoms) ++ drop l.atom-index l.fn.atoms
