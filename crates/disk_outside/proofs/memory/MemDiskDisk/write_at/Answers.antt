use Rattle.disk_outside.proofs.DoesLemmas.{write_seen, write_steps}
use Rattle.disk_outside.proofs.memory.MemDiskDisk.write_at.Goals as goal

pub returns-clause-written : goal.returns-clause-written
returns-clause-written c = write_seen c.args.self.now c.record_call.new.self c.args.name.now c.args.at c.args.bytes.now c.record_call.result c.requires c.record_call.ensures.does

pub returns-clause-change : goal.returns-clause-change
returns-clause-change c = write_steps c.args.self.now c.record_call.new.self c.args.name.now c.args.at c.args.bytes.now c.record_call.result c.requires c.record_call.ensures.does
