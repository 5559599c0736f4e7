use Rattle.std.proofs.Common.{◌≡◌, ◌-◌}
use Rattle.meaning.specs.Runs.{run_from}
use Rattle.script_runs.specs.Line.{IsShown}
use Rattle.script_runs.specs.Parts.{Leads, stands}
use Rattle.step_engine.specs.Engine.{setting_of}
use Rattle.step_engine.specs.Ranges.{IsState}
use Rattle.script_runs.proofs.steps.go_on.Given as goal

abbrev pub invariant-loop-step : goal.invariant-loop-step
invariant-loop-step g l = record {
  engine : l.engine ≡ record l.initial.engine { state = l.engine.state };
  state : IsState l.engine.rules l.engine.state;
  shown : IsShown l.engine l.tally;
  number : l.step ≡ l.engine.state.step;
  others : l.output ≡ record l.initial.output { uses = l.output.uses };
  leads : Leads (run_from (setting_of l.initial.engine.rules l.fixes) l.initial.output l.last (l.last - l.first) (stands l.initial.engine.state l.initial.tally) l.initial.output.uses) (g.P.Press.seen l.initial.press).sent (g.P.Press.seen l.press).sent l.initial.steps l.steps (run_from (setting_of l.initial.engine.rules l.fixes) l.initial.output l.last (l.last - l.step) (stands l.engine.state l.tally) l.output.uses);
  stays : (g.P.Press.seen l.press).faults ≡ (g.P.Press.seen l.initial.press).faults;
}
