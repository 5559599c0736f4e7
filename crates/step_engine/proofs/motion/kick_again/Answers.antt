use Rattle.std.proofs.Common.{rules}
use Rattle.serial_step.specs.Step.{kicked_again}
use Rattle.step_engine.specs.Engine.{setting_of}
use Rattle.step_engine.proofs.LoopLemmas.{IsSoundAtom, passed_more, passed_all}
use Rattle.step_engine.proofs.motion.kick_again.Goals as goal

pub loop-i-preserved : goal.loop-i-preserved
loop-i-preserved c =
    let e = c.kick_atom_again-fault.ensures in
    passed_more (kicked_again (setting_of c.args.rules.now c.args.fixes.now)) (IsSoundAtom c.args.rules.now) c.args.atoms.now c.loop-i.atoms c.loop-i.i c.loop-i.least _ c.kick_atom_again-fault.result.0 c.kick_atom_again-fault.result.1 c.min-least.result c.loop-i.invariant c.loop-i-test.true e.atom e.fault (search rules) (λ none. record { placed = e.placed; movable = e.movable none }) c.min-least.ensures

pub returns-clause-atoms : goal.returns-clause-atoms
returns-clause-atoms c = passed_all (kicked_again (setting_of c.args.rules.now c.args.fixes.now)) (IsSoundAtom c.args.rules.now) c.args.atoms.now c.loop-i.atoms c.loop-i.i c.loop-i.least c.loop-i.invariant c.loop-i-test.false
