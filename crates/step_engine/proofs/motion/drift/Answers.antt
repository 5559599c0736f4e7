use Rattle.std.proofs.Common.{rules}
use Rattle.serial_step.specs.Step.{drifted}
use Rattle.step_engine.specs.Engine.{setting_of}
use Rattle.step_engine.proofs.LoopLemmas.{IsSoundAtom, passed_more, passed_all}
use Rattle.step_engine.proofs.motion.drift.Goals as goal

pub loop-i-preserved : goal.loop-i-preserved
loop-i-preserved c =
    let e = c.drift_atom-fault.ensures in
    passed_more (drifted (setting_of c.args.rules.now c.args.fixes.now)) (IsSoundAtom c.args.rules.now) c.args.atoms.now c.loop-i.atoms c.loop-i.i c.loop-i.least _ c.drift_atom-fault.result.0 c.drift_atom-fault.result.1 c.min-least.result c.loop-i.invariant c.loop-i-test.true e.atom e.fault (search rules) (λ none. record { placed = e.placed none; movable = e.movable none }) c.min-least.ensures

pub returns-clause-atoms : goal.returns-clause-atoms
returns-clause-atoms c = passed_all (drifted (setting_of c.args.rules.now c.args.fixes.now)) (IsSoundAtom c.args.rules.now) c.args.atoms.now c.loop-i.atoms c.loop-i.i c.loop-i.least c.loop-i.invariant c.loop-i-test.false
