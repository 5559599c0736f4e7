use Rattle.serial_step.specs.Step.{drifted}
use Rattle.step_engine.specs.Engine.{setting_of}
use Rattle.step_engine.proofs.LoopLemmas.{Passed, IsSoundAtom}
use Rattle.step_engine.proofs.motion.drift.Given as goal

abbrev pub invariant-loop-i : goal.invariant-loop-i
invariant-loop-i l = Passed (drifted (setting_of l.rules l.fixes)) (IsSoundAtom l.rules) l.initial.atoms l.atoms l.i l.least
