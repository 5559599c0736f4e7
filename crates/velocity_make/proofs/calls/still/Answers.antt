use Rattle.std.proofs.Common.{◌∙◌}
use Rattle.velocity_make.proofs.ListLemmas.{stilled_is}
use Rattle.velocity_make.proofs.calls.still.Goals as goal

pub returns : goal.returns
returns c = c.write_all.ensures ∙ stilled_is c.args.mass.now c.args.ids.now c.args.atoms.now c.mean-u.result c.mean-u.ensures.is
