use Rattle.std.proofs.Common.{◌≡◌, ◌+◌, ◌==◌, ◌∙◌, ℕ, sym, ap, Err}
use Rattle.box_geo.specs.Fault.{no_fault}
use Rattle.meaning.specs.Runs.{after_step, line_shown, snapshot}
use Rattle.script_runs.specs.Parts.{step_part}
use Rattle.script_runs.proofs.PartLemmas.{part_begins, part_fails, part_halts, part_without}
use Rattle.script_runs.proofs.StepLemmas.{line_is, step_fails, step_number, step_shown, step_shows}
use Rattle.serial_step.specs.Step.{Outcome, Setting, serial_step}
use Rattle.serial_step.specs.Work.{step_pairs}
use Rattle.step_engine.specs.Engine.{setting_of}
use Rattle.script_runs.proofs.steps.step_once.Goals as goal

pub returns-in-Err-Range-clause-begins : goal.returns-in-Err-Range-clause-begins
returns-in-Err-Range-clause-begins g c =
    let t : Setting = setting_of c.args.engine.now.rules c.args.fixes.now in
    let s = c.args.engine.now.state in
    let o = c.args.output.now in
    let key = c.in-Err-Range.key in
    let number : (serial_step t s).state.step ≡ c.args.step + 1 = step_number t s ∙ ap (λ (n : ℕ). n + 1) (sym c.requires.step) in
    rw c.in-Err-Range.key-is
    (part_fails (step_part t o c.args.last s o.uses) (step_pairs t s) (snapshot (serial_step t s)) key (c.args.step + 1) _ _ _ o.uses
    (step_fails t o c.args.last s o.uses key (c.args.step + 1) (c.in-Err-Range.ensures.range key (ap Err c.in-Err-Range.field-0-is)) number)
    c.in-Err-Range.ensures.few_steps)

pub returns-in-Err-NoMemory-clause-begins : goal.returns-in-Err-NoMemory-clause-begins
returns-in-Err-NoMemory-clause-begins g c =
    let t : Setting = setting_of c.args.engine.now.rules c.args.fixes.now in
    let s = c.args.engine.now.state in
    let o = c.args.output.now in
    let n : Outcome = serial_step t s in
    part_without (step_pairs t s) (λ next. after_step t o c.args.last n o.uses next (n.fault == no_fault)) _ _ _ o.uses c.in-Err-NoMemory.ensures.few_steps

pub show_due-requires-clause-shown : goal.show_due-requires-clause-shown
show_due-requires-clause-shown g c =
    step_shown c.advance.new.self c.args.engine.now (setting_of c.args.engine.now.rules c.args.fixes.now) c.in-Ok.tally
    c.in-Ok.ensures.state c.requires.rules.dt c.in-Ok.ensures.ready c.in-Ok.ensures.sums c.in-Ok.ensures.small

pub returns-in-Ok-show_due-clause-begins : goal.returns-in-Ok-show_due-clause-begins
returns-in-Ok-show_due-clause-begins g c =
    let t : Setting = setting_of c.args.engine.now.rules c.args.fixes.now in
    let s = c.args.engine.now.state in
    let o = c.args.output.now in
    let n : Outcome = serial_step t s in
    let line = line_is c.advance.new.self c.args.engine.now c.args.fixes.now o c.args.last n.state c.in-Ok.tally n.sums o.uses c.in-Ok.ensures.state c.in-Ok.ensures.sums in
    part_begins (step_part t o c.args.last s o.uses) (step_pairs t s) (line_shown t o c.args.last n.state n.sums o.uses) _ _ _ _ _ _ c.in-Ok.tally
    (step_shows t o c.args.last s o.uses c.in-Ok.ensures.sound) c.in-Ok.ensures.steps
    (rw line at c.in-Ok-show_due.ensures.shows)

pub returns-in-Err-clause-begins : goal.returns-in-Err-clause-begins
returns-in-Err-clause-begins g c =
    let t : Setting = setting_of c.args.engine.now.rules c.args.fixes.now in
    let s = c.args.engine.now.state in
    let o = c.args.output.now in
    let n : Outcome = serial_step t s in
    let line = line_is c.advance.new.self c.args.engine.now c.args.fixes.now o c.args.last n.state c.in-Ok.tally n.sums o.uses c.in-Ok.ensures.state c.in-Ok.ensures.sums in
    part_halts (step_part t o c.args.last s o.uses) (step_pairs t s) (line_shown t o c.args.last n.state n.sums o.uses) _ _ _ _ _ c.in-Err.why c.put_refusal.result
    (step_shows t o c.args.last s o.uses c.in-Ok.ensures.sound) c.in-Ok.ensures.steps c.put_refusal.ensures
    (rw line at c.in-Err.ensures.shows)

pub returns-in-Ok-show_due-clause-shown : goal.returns-in-Ok-show_due-clause-shown
returns-in-Ok-show_due-clause-shown g c =
    step_shown c.advance.new.self c.args.engine.now (setting_of c.args.engine.now.rules c.args.fixes.now) c.in-Ok.tally
    c.in-Ok.ensures.state c.requires.rules.dt c.in-Ok.ensures.ready c.in-Ok.ensures.sums c.in-Ok.ensures.small
