use Rattle.disk_outside.proofs.Pool.{calls_more, parts_more}
use Rattle.disk_outside.proofs.memory.take_down.Goals as goal

pub returns-in-Ok-clause-parts : goal.returns-in-Ok-clause-parts
returns-in-Ok-clause-parts c = parts_more c.args.calls.now.items c.append.new.calls.items c.args.pool.now.items c.append.new.pool.items c.args.call c.args.name.now c.args.bytes.now c.requires.parts c.requires.name c.requires.bytes c.append.ensures.calls c.append.ensures.pool

pub returns-in-Ok-clause-ops : goal.returns-in-Ok-clause-ops
returns-in-Ok-clause-ops c = calls_more c.args.calls.now.items c.append.new.calls.items c.args.pool.now.items c.append.new.pool.items c.args.call c.args.name.now c.args.bytes.now c.requires.parts c.requires.name c.requires.bytes c.append.ensures.calls c.append.ensures.pool
