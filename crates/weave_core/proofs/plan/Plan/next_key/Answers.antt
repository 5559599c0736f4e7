use Rattle.std.proofs.Common.{sym, ap, ◌∙◌, option_copied}
use Rattle.weave_core.proofs.Hands.{next_key-none, next_key-found}
use Rattle.weave_core.proofs.plan.Plan.next_key.Goals as goal

pub returns-in_default-get : goal.returns-in_default-get
returns-in_default-get c = sym (next_key-none c.args.self.now c.args.hand c.in-Holds.piece c.in-Holds.field-1 c.in-Holds.lowered c.in-Holds.is c.if-lowered.false (sym c.get.ensures ∙ ap option_copied c.in_default-get.is))

pub returns : goal.returns
returns c = next_key-found c.args.self.now c.args.hand c.in-Holds.piece c.in-Holds.field-1 c.in-Holds.lowered c.in-Some.work.now c.in-Holds.is c.if-lowered.false (sym c.get.ensures ∙ ap option_copied c.in-Some.is)
