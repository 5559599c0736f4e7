use Rattle.std.proofs.Common.{◌≡◌, ◌∷◌, drop}
use Rattle.control_flow.specs.Flow.{stepped_in, FlowState}
use Rattle.control_flow.proofs.search.found_in.Given as goal

abbrev pub invariant-loop-i : goal.invariant-loop-i
invariant-loop-i l = (flow : FlowState) → stepped_in flow (l.file ∷ l.outer) ≡ stepped_in flow (drop l.i l.outer)
