use Rattle.std.proofs.Common.{◌≡◌, ◌∙◌, length, arith}
use Rattle.box_geo.specs.Fault.{no_fault}
use Rattle.meaning.specs.Runs.{first_shown, snapshot}
use Rattle.script_runs.specs.Parts.{set_up_part}
use Rattle.script_runs.proofs.PartLemmas.{part_begins, part_fails, part_halts}
use Rattle.script_runs.proofs.StepLemmas.{first_is, set_up_fails, set_up_fault, set_up_number, set_up_shows, set_up_tally, set_up_world}
use Rattle.serial_step.specs.Step.{Outcome, Setting, set_up}
use Rattle.step_engine.specs.Engine.{IsKeyOf, setting_of}
use Rattle.sums.specs.Totals.{half}
use Rattle.script_runs.proofs.steps.set_up.Goals as goal

pub returns-in-Err-clause-begins : goal.returns-in-Err-clause-begins
returns-in-Err-clause-begins g c =
    let w = c.args.engine.now in
    let t : Setting = setting_of w.rules c.args.fixes.now in
    let o = c.args.output.now in
    let n : Outcome = set_up t w.state.step w.state.atoms in
    let key : IsKeyOf n.fault c.in-Err.key = rw (set_up_fault w.rules c.args.fixes.now w.state.step w.state.atoms) c.in-Err.ensures.fault in
    rw c.step-number.ensures
    (part_fails (set_up_part t o w.state.step w.state.atoms o.uses) (length (half w.state.atoms)) (snapshot n) c.in-Err.key w.state.step (g.P.Press.seen c.args.press.now).sent c.args.steps.now c.forces.new.steps o.uses
    (set_up_fails t o w.state.step w.state.atoms o.uses c.in-Err.key key (set_up_number t w.state.step w.state.atoms))
    (omega (arith, c.forces.ensures.steps)))

pub returns-in-Ok-show_first-clause-begins : goal.returns-in-Ok-show_first-clause-begins
returns-in-Ok-show_first-clause-begins g c =
    let w = c.args.engine.now in
    let t : Setting = setting_of w.rules c.args.fixes.now in
    let o = c.args.output.now in
    let n : Outcome = set_up t w.state.step w.state.atoms in
    let sound : n.fault ≡ no_fault = set_up_fault w.rules c.args.fixes.now w.state.step w.state.atoms ∙ c.in-Ok.ensures.sound in
    let line =
    first_is c.forces.new.self w c.args.fixes.now o n.state c.in-Ok.tally n.sums o.uses
    (set_up_world c.forces.new.self w c.args.fixes.now c.in-Ok.ensures.system c.requires.references c.requires.builds)
    (set_up_tally c.in-Ok.tally t w.state.step w.state.atoms c.in-Ok.ensures.sums) in
    part_begins (set_up_part t o w.state.step w.state.atoms o.uses) (length (half w.state.atoms)) (first_shown t o n.state n.sums o.uses) _ _ _ _ _ _ c.in-Ok.tally
    (set_up_shows t o w.state.step w.state.atoms o.uses sound) c.forces.ensures.steps
    (rw line at c.in-Ok-show_first.ensures.shows)

pub returns-in-Ok-show_first-clause-state : goal.returns-in-Ok-show_first-clause-state
returns-in-Ok-show_first-clause-state g c =
    set_up_world c.forces.new.self c.args.engine.now c.args.fixes.now c.in-Ok.ensures.system c.requires.references c.requires.builds

pub returns-in-Err-show_first-clause-begins : goal.returns-in-Err-show_first-clause-begins
returns-in-Err-show_first-clause-begins g c =
    let w = c.args.engine.now in
    let t : Setting = setting_of w.rules c.args.fixes.now in
    let o = c.args.output.now in
    let n : Outcome = set_up t w.state.step w.state.atoms in
    let sound : n.fault ≡ no_fault = set_up_fault w.rules c.args.fixes.now w.state.step w.state.atoms ∙ c.in-Ok.ensures.sound in
    let line =
    first_is c.forces.new.self w c.args.fixes.now o n.state c.in-Ok.tally n.sums o.uses
    (set_up_world c.forces.new.self w c.args.fixes.now c.in-Ok.ensures.system c.requires.references c.requires.builds)
    (set_up_tally c.in-Ok.tally t w.state.step w.state.atoms c.in-Ok.ensures.sums) in
    part_halts (set_up_part t o w.state.step w.state.atoms o.uses) (length (half w.state.atoms)) (first_shown t o n.state n.sums o.uses) _ _ _ _ _ c.in-Err-show_first.why c.put_refusal.result
    (set_up_shows t o w.state.step w.state.atoms o.uses sound) c.forces.ensures.steps c.put_refusal.ensures
    (rw line at c.in-Err-show_first.ensures.shows)

pub returns-in-Ok-show_first-clause-sums : goal.returns-in-Ok-show_first-clause-sums
returns-in-Ok-show_first-clause-sums g c =
    let w = c.args.engine.now in
    set_up_tally c.in-Ok.tally (setting_of w.rules c.args.fixes.now) w.state.step w.state.atoms c.in-Ok.ensures.sums
