use Rattle.std.proofs.Common.{◌≡◌}
use Rattle.step_engine.specs.Ranges.{AreRules, IsState}
use Rattle.part_tests.proofs.engines.advanced.Given as goal

abbrev pub invariant-loop-step : goal.invariant-loop-step
invariant-loop-step g l = record {
  rules : AreRules l.engine.rules;
  state : IsState l.engine.rules l.engine.state;
  step : l.engine.state.step ≡ l._step;
}
