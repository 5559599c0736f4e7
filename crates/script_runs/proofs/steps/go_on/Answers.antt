use Rattle.std.proofs.Common.{◌∙◌, ap, refl}
use Rattle.script_runs.specs.Line.{footer_now}
use Rattle.script_runs.specs.Parts.{stands}
use Rattle.script_runs.proofs.PartLemmas.{leads_start}
use Rattle.script_runs.proofs.RunLemmas.{footer_is, loop_done, loop_halts, loop_on, loop_stop}
use Rattle.script_runs.proofs.StepLemmas.{number_next, others_stand, stands_next, world_stands}
use Rattle.serial_step.specs.Step.{Setting}
use Rattle.step_engine.specs.Engine.{World, setting_of}
use Rattle.script_runs.proofs.steps.go_on.Goals as goal

pub loop-step-init : goal.loop-step-init
loop-step-init g c = record {
  engine = refl;
  state = c.requires.state;
  shown = c.requires.shown;
  number = c.requires.first;
  others = refl;
  leads = leads_start _ _ _;
  stays = refl;
}

pub returns-in-Err-clause-makes : goal.returns-in-Err-clause-makes
returns-in-Err-clause-makes g c =
    let i = c.loop-step.invariant in
    loop_stop _ _ _ _ _ _ _ (setting_of c.args.engine.now.rules c.args.fixes.now) (setting_of c.loop-step.engine.rules c.args.fixes.now) c.args.output.now c.loop-step.output c.args.last c.loop-step.step (stands c.loop-step.engine.state c.loop-step.tally) _ _ c.in-Err.why
    c.loop-step-test.true (ap (λ (w : World). setting_of w.rules c.args.fixes.now) i.engine) i.others i.leads c.in-Err.ensures.begins

pub loop-step-preserved : goal.loop-step-preserved
loop-step-preserved g c =
    let i = c.loop-step.invariant in
    let n = c.step_once.new in
    let u : Setting = setting_of c.loop-step.engine.rules c.args.fixes.now in
    record {
      engine = world_stands n.engine c.loop-step.engine c.args.engine.now _ c.in-Ok.ensures.state i.engine;
      state = c.in-Ok.ensures.ready;
      shown = c.in-Ok.ensures.shown;
      number = number_next n.engine c.loop-step.engine u c.loop-step.step c.in-Ok.ensures.state i.number;
      others = others_stand n.output c.loop-step.output c.args.output.now c.in-Ok.ensures.others i.others;
      leads = loop_on _ _ _ _ _ _ _ (setting_of c.args.engine.now.rules c.args.fixes.now) u c.args.output.now c.loop-step.output c.args.last c.loop-step.step (stands c.loop-step.engine.state c.loop-step.tally) (stands n.engine.state c.in-Ok.tally) _ c.in-Ok.tally
          c.loop-step-test.true (ap (λ (w : World). setting_of w.rules c.args.fixes.now) i.engine) i.others i.leads c.in-Ok.ensures.begins (stands_next n.engine c.loop-step.engine u c.in-Ok.tally c.in-Ok.ensures.state c.in-Ok.ensures.sums);
      stays = c.in-Ok.ensures.stays.1.0 ∙ i.stays;
    }

pub returns-in-Ok-show_footer-clause-makes : goal.returns-in-Ok-show_footer-clause-makes
returns-in-Ok-show_footer-clause-makes g c =
    let i = c.loop-step.invariant in
    loop_done _ _ _ _ _ _ (setting_of c.args.engine.now.rules c.args.fixes.now) c.args.output.now c.loop-step.output c.args.last c.loop-step.step c.loop-step.engine.state c.loop-step.tally (footer_now c.loop-step.engine) _
    c.loop-step-test.false i.others (footer_is c.loop-step.engine c.args.engine.now.rules c.args.fixes.now (ap (λ (w : World). w.rules) i.engine)) i.leads c.in-Ok-show_footer.ensures.shows

pub returns-in-Err-show_footer-clause-makes : goal.returns-in-Err-show_footer-clause-makes
returns-in-Err-show_footer-clause-makes g c =
    let i = c.loop-step.invariant in
    loop_halts _ _ _ _ _ _ (setting_of c.args.engine.now.rules c.args.fixes.now) c.args.output.now c.loop-step.output c.args.last c.loop-step.step (stands c.loop-step.engine.state c.loop-step.tally) _ (footer_now c.loop-step.engine) _ c.put_refusal.result c.in-Err-show_footer.why
    c.loop-step-test.false i.others (footer_is c.loop-step.engine c.args.engine.now.rules c.args.fixes.now (ap (λ (w : World). w.rules) i.engine)) c.put_refusal.ensures i.leads c.in-Err-show_footer.ensures.shows
