use Rattle.std.proofs.Common.{◌<◌, length, arith}
use Rattle.control_flow.proofs.ListLemmas.{one_more}
use Rattle.control_flow.proofs.search.close.Goals as goal

pub loop-i-preserved : goal.loop-i-preserved
loop-i-preserved c =
    let some : 0 < length c.loop-i.outer.items = omega arith in
    (one_more c.loop-i.file c.remove.result c.loop-i.outer.items c.remove.new.self.items _ c.loop-i._i c.loop-i.invariant.0 some c.remove.ensures.value c.remove.ensures.items, omega arith)
