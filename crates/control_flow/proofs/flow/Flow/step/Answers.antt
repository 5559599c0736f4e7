use Rattle.std.proofs.Common.{◌≡◌, ◌∙◌, ◌≤◌, [], ◌∷◌, drop, length, ap, arith}
use Rattle.control_flow.specs.Flow.{FlowState, stepped_in}
use Rattle.control_flow.proofs.ListLemmas.{fewer_by}
use Rattle.control_flow.proofs.StepLemmas.{ended_is}
use Rattle.control_flow.proofs.flow.Flow.step.Goals as goal

pub invariant_of-self : goal.invariant_of-self
invariant_of-self c =
    let few : length c.close.new.outer.items ≤ length c.self.inside.outer.items = fewer_by _ _ _ _ _ c.close.ensures in
    (omega arith, omega arith)

pub returns-in-None-clause-stepped : goal.returns-in-None-clause-stepped
returns-in-None-clause-stepped c =
    let file = c.self.inside.file in
    let outer = c.deref.result.now in
    let new : FlowState = record { file = c.close.new.file; outer = c.close.new.outer.items; skips = c.self.inside.skips; last = record { file = c.self.inside.last; number = c.self.inside.number }; count = c.self.inside.count } in
    let n : c.len-closed.result ≡ length outer = omega (arith, c.deref.ensures.len) in
    let over : (flow : FlowState) → stepped_in flow (file ∷ outer) ≡ stepped_in flow [] = rw c.in-None.is at c.in_ok-found.ensures.over in
    let closed : new.file ∷ new.outer ≡ drop c.len-closed.result (file ∷ outer) = rw c.deref.ensures.value c.close.ensures in
    ended_is c.args.self.now new file outer c.len-closed.result (ap (λ (f : FlowState). f.file) c.self.view_is) (c.deref.ensures.value ∙ ap (λ (f : FlowState). f.outer) c.self.view_is)
    n over closed (ap (λ (f : FlowState). f.skips) c.self.view_is) (ap (λ (f : FlowState). f.last) c.self.view_is) (ap (λ (f : FlowState). f.count) c.self.view_is)
