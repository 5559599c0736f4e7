use Rattle.std.proofs.Common.{◌≡◌, map, take}
use Rattle.serial_step.specs.Forces.{force_word, least}
use Rattle.step_engine.proofs.pairs.force_fault.Given as goal

abbrev pub invariant-loop-atom : goal.invariant-loop-atom
invariant-loop-atom l = l.least ≡ least (map force_word (take l.atom-index l.atoms))
