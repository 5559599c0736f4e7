use Rattle.std.proofs.Common.{arith}
use Rattle.run_settings.proofs.MarkLemmas.{parts}
use Rattle.run_settings.proofs.members.lower_bound.Goals as goal

pub returns-in-Err-clause-below : goal.returns-in-Err-clause-below
returns-in-Err-clause-below c = (parts c.args.ids.now c.args.id c.in-Err.place c.in-Err.ensures.position c.requires).below

pub returns-in-Err-clause-from : goal.returns-in-Err-clause-from
returns-in-Err-clause-from c k low high =
    let above = (parts c.args.ids.now c.args.id c.in-Err.place c.in-Err.ensures.position c.requires).above k low high in
    omega arith
