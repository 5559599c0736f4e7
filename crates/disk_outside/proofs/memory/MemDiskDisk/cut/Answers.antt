use Rattle.disk_outside.proofs.DoesLemmas.{cut_seen, cut_steps}
use Rattle.disk_outside.proofs.memory.MemDiskDisk.cut.Goals as goal

pub returns-clause-cut : goal.returns-clause-cut
returns-clause-cut c = cut_seen c.args.self.now c.record_call.new.self c.args.name.now c.args.length c.record_call.result c.record_call.ensures.does

pub returns-clause-change : goal.returns-clause-change
returns-clause-change c = cut_steps c.args.self.now c.record_call.new.self c.args.name.now c.args.length c.record_call.result c.record_call.ensures.does
