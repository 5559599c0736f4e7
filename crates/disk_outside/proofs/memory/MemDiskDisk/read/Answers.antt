use Rattle.disk_outside.proofs.DoesLemmas.{read_stays}
use Rattle.disk_outside.proofs.memory.MemDiskDisk.read.Goals as goal

pub returns-in-Ok-clause-stays : goal.returns-in-Ok-clause-stays
returns-in-Ok-clause-stays c = read_stays c.args.self.now c.count_read.new.self c.count_read.result c.count_read.ensures.counts

pub returns-in-Err-clause-stays : goal.returns-in-Err-clause-stays
returns-in-Err-clause-stays c = read_stays c.args.self.now c.count_read.new.self c.count_read.result c.count_read.ensures.counts
