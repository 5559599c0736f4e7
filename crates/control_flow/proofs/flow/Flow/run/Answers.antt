use Rattle.std.proofs.Common.{◌≤◌, length, arith}
use Rattle.control_flow.proofs.ListLemmas.{fewer_by}
use Rattle.control_flow.proofs.flow.Flow.run.Goals as goal

pub invariant_of-self : goal.invariant_of-self
invariant_of-self c =
    let few : length c.close.new.outer.items ≤ length c.self.inside.outer.items = fewer_by _ _ _ _ _ c.close.ensures in
    (omega arith, omega arith)
