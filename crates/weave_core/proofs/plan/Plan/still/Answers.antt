use Rattle.std.proofs.Common.{sym, ap, ◌∙◌, option_copied}
use Rattle.weave_core.proofs.Hands.{still-none}
use Rattle.weave_core.proofs.plan.Plan.still.Goals as goal

pub returns-in_default : goal.returns-in_default
returns-in_default c = sym (still-none c.args.self.now c.args.piece c.args.played c.args.lowered (sym c.get.ensures ∙ ap option_copied c.in_default.is))
