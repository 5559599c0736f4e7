use Rattle.disk_outside.proofs.DoesLemmas.{sync_seen, sync_settles, sync_steps}
use Rattle.disk_outside.proofs.memory.MemDiskDisk.sync.Goals as goal

pub returns-clause-seen : goal.returns-clause-seen
returns-clause-seen c = sync_seen c.args.self.now c.record_call.new.self c.args.name.now c.record_call.result c.record_call.ensures.does

pub returns-clause-settled : goal.returns-clause-settled
returns-clause-settled c = sync_settles c.args.self.now c.record_call.new.self c.args.name.now c.record_call.result c.record_call.ensures.does

pub returns-clause-change : goal.returns-clause-change
returns-clause-change c = sync_steps c.args.self.now c.record_call.new.self c.args.name.now c.record_call.result c.record_call.ensures.does
