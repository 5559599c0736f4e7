use Rattle.std.proofs.Common.{subst, sym}
use Rattle.meaning.specs.Causes.{Counted}
use Rattle.meaning.specs.Outcome.{Outcome}
use Rattle.meaning.specs.Sends.{Does}
use Rattle.script_runs.proofs.JudgeLemmas.{does_stop, is_all_ready, run_passes, stops_rest}
use Rattle.script_runs.proofs.runs.run.Goals as goal

pub returns-in-Err-clause-does : goal.returns-in-Err-clause-does
returns-in-Err-clause-does g c = does_stop c.args.upto c.args.n c.args.settings.now c.in-Some.body c.in-Err.why _ (sym c.in-Some.ensures.value) c.in-Err.ensures.stopped

pub returns-in-Err-clause-cause : goal.returns-in-Err-clause-cause
returns-in-Err-clause-cause g c = stops_rest c.args.upto c.args.n c.args.settings.now c.in-Some.body c.in-Err.why _ c.in-Err.ensures.stopped

pub run_ready-requires-clause-ready : goal.run_ready-requires-clause-ready
run_ready-requires-clause-ready g c = is_all_ready c.args.upto c.args.n (record c.args.settings.now { body = c.take.new.self }) c.in-Some.body c.in-Ok.ensures.passes

pub returns-clause-does : goal.returns-clause-does
returns-clause-does g c =
    let meant = run_passes c.args.upto c.args.n c.args.settings.now c.in-Some.body c.last_step-last.result (sym c.in-Some.ensures.value) c.in-Ok.ensures.passes c.last_step-last.ensures in
    subst (λ (o : Outcome). Does {T = Unit {0}} o (g.P.Press.seen c.args.press.now).sent c.run_ready.result (g.P.Press.seen c.run_ready.new.press).sent c.run_ready.new.settings) (sym meant) c.run_ready.ensures.does

pub returns-clause-counted : goal.returns-clause-counted
returns-clause-counted g c =
    let meant = run_passes c.args.upto c.args.n c.args.settings.now c.in-Some.body c.last_step-last.result (sym c.in-Some.ensures.value) c.in-Ok.ensures.passes c.last_step-last.ensures in
    subst (λ (o : Outcome). Counted {T = Unit {0}} o.pairs c.args.steps.now c.run_ready.result c.run_ready.new.steps) (sym meant) c.run_ready.ensures.counted
