use Rattle.std.proofs.Common.{◌∙◌, sym, ap}
use Rattle.script_runs.proofs.RunLemmas.{run_on, run_stop}
use Rattle.script_runs.proofs.StepLemmas.{set_up_number, stands_first}
use Rattle.script_runs.specs.Parts.{stands}
use Rattle.step_engine.specs.Engine.{World, setting_of}
use Rattle.script_runs.proofs.steps.run_engine.Goals as goal

pub returns-in-Err-set_up-clause-makes : goal.returns-in-Err-set_up-clause-makes
returns-in-Err-set_up-clause-makes g c =
    let w = c.args.engine.now in
    run_stop (setting_of w.rules c.args.fixes.now) c.args.output.now c.args.last w.state.step w.state.atoms _ _ _ _ _ _ c.in-Err-set_up.why c.in-Err-set_up.ensures.begins

pub go_on-requires-clause-first : goal.go_on-requires-clause-first
go_on-requires-clause-first g c =
    let w = c.args.engine.now in
    c.step-first.ensures ∙ sym (ap (λ (x : World). x.state.step) c.in-Ok-set_up.ensures.state ∙ set_up_number (setting_of w.rules c.args.fixes.now) w.state.step w.state.atoms)

pub returns-clause-makes : goal.returns-clause-makes
returns-clause-makes g c =
    let w = c.args.engine.now in
    let n = c.set_up.new in
    run_on (setting_of w.rules c.args.fixes.now) (setting_of n.engine.rules c.args.fixes.now) c.args.output.now n.output c.args.last w.state.step w.state.atoms (stands n.engine.state c.in-Ok-set_up.tally) _ _ _ _ _ _ c.in-Ok-set_up.tally c.go_on.result _ _
    (ap (λ (x : World). setting_of x.rules c.args.fixes.now) c.in-Ok-set_up.ensures.state) (stands_first n.engine w (setting_of w.rules c.args.fixes.now) c.in-Ok-set_up.tally c.in-Ok-set_up.ensures.state c.in-Ok-set_up.ensures.sums) c.in-Ok-set_up.ensures.others c.in-Ok-set_up.ensures.begins (rw c.step-first.ensures at c.go_on.ensures.makes)
