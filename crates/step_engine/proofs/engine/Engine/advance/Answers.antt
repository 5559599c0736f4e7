use Rattle.std.proofs.Common.{◌≡◌, refl, sym, arith}
use Rattle.step_engine.specs.declared.engine.StepEnd.TheVariants.{Range}
use Rattle.step_engine.specs.Engine.{setting_of}
use Rattle.step_engine.proofs.StepLemmas.{drift_fault, key_of, force_fault, kick_fault, pairs_are, step_is, sums_are}
use Rattle.step_engine.proofs.SmallLemmas.{step_small}
use Rattle.step_engine.proofs.engine.Engine.advance.Goals as goal

pub returns-in_err-drift-clause-range : goal.returns-in_err-drift-clause-range
returns-in_err-drift-clause-range g c = λ key e.
    let is : Range key ≡ Range c.in_err-drift.field-0.0 = rw e at c.from_residual.ensures.1 in
    let same : key ≡ c.in_err-drift.field-0.0 = cc in
    let h = c.in_err-drift.ensures.fault in
    key_of _ _ key c.in_err-drift.field-0.0 (drift_fault (setting_of c.args.self.now.rules c.args.fixes.now) c.args.self.now.state h.2) same h

pub returns-in_err-tally-clause-range : goal.returns-in_err-tally-clause-range
returns-in_err-tally-clause-range g c = λ key e.
    let is : Range key ≡ Range c.in_err-tally.field-0.0 = rw e at c.from_residual-in_err-tally.ensures.1 in
    let same : key ≡ c.in_err-tally.field-0.0 = cc in
    let h = c.in_err-tally.ensures.fault in
    key_of _ _ key c.in_err-tally.field-0.0 (force_fault c.args.fixes.now c.args.self.now c.drift.new.self _ c.in_ok-drift.ensures.state c.in_ok-drift.ensures.sound refl h.2) same h

pub returns-in_err-kick_again-clause-range : goal.returns-in_err-kick_again-clause-range
returns-in_err-kick_again-clause-range g c = λ key e.
    let is : Range key ≡ Range c.in_err-kick_again.field-0.0 = rw e at c.from_residual-in_err-kick_again.ensures.1 in
    let same : key ≡ c.in_err-kick_again.field-0.0 = cc in
    let h = c.in_err-kick_again.ensures.fault in
    key_of _ _ key c.in_err-kick_again.field-0.0 (kick_fault c.args.fixes.now c.args.self.now c.drift.new.self c.forces.new.self _ c.in_ok-drift.ensures.state c.in_ok-tally.ensures.system c.in_ok-drift.ensures.sound c.in_ok-tally.ensures.sound refl) same h

pub returns-in_err-tally-clause-few_steps : goal.returns-in_err-tally-clause-few_steps
returns-in_err-tally-clause-few_steps g c = omega (arith, pairs_are c.args.fixes.now c.args.self.now c.drift.new.self c.in_ok-drift.ensures.state c.in_ok-drift.ensures.sound, c.forces.ensures.steps)

pub returns-in_err-kick_again-clause-few_steps : goal.returns-in_err-kick_again-clause-few_steps
returns-in_err-kick_again-clause-few_steps g c = omega (arith, pairs_are c.args.fixes.now c.args.self.now c.drift.new.self c.in_ok-drift.ensures.state c.in_ok-drift.ensures.sound, c.forces.ensures.steps)

pub returns-clause-state : goal.returns-clause-state
returns-clause-state g c = step_is c.args.fixes.now c.args.self.now c.drift.new.self c.forces.new.self c.kick_again.new.self c.in_ok-drift.ensures.state c.in_ok-tally.ensures.system c.in_ok-kick_again.ensures.system

pub returns-clause-sums : goal.returns-clause-sums
returns-clause-sums g c = sums_are c.args.fixes.now c.args.self.now c.drift.new.self c.in_ok-tally.tally c.in_ok-drift.ensures.state c.in_ok-tally.ensures.sums

pub returns-clause-sound : goal.returns-clause-sound
returns-clause-sound g c = kick_fault c.args.fixes.now c.args.self.now c.drift.new.self c.forces.new.self _ c.in_ok-drift.ensures.state c.in_ok-tally.ensures.system c.in_ok-drift.ensures.sound c.in_ok-tally.ensures.sound (sym c.in_ok-kick_again.ensures.sound)

pub returns-clause-steps : goal.returns-clause-steps
returns-clause-steps g c = omega (arith, pairs_are c.args.fixes.now c.args.self.now c.drift.new.self c.in_ok-drift.ensures.state c.in_ok-drift.ensures.sound, c.forces.ensures.steps)

pub returns-clause-few_steps : goal.returns-clause-few_steps
returns-clause-few_steps g c = omega (arith, pairs_are c.args.fixes.now c.args.self.now c.drift.new.self c.in_ok-drift.ensures.state c.in_ok-drift.ensures.sound, c.forces.ensures.steps)

pub returns-clause-small : goal.returns-clause-small
returns-clause-small g c = step_small c.args.fixes.now c.args.self.now c.drift.new.self c.in_ok-tally.tally c.in_ok-drift.ensures.state c.in_ok-tally.ensures.small
