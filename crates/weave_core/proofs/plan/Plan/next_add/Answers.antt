use Rattle.std.proofs.Common.{◌≤◌, length, sym, ap, ◌∙◌, option_copied, arith}
use Rattle.weave_core.proofs.Hands.{next_add-none, next_add-found, get_past}
use Rattle.weave_core.proofs.plan.Plan.next_add.Goals as goal

pub returns-in_default-get-clause-add : goal.returns-in_default-get-clause-add
returns-in_default-get-clause-add c = sym (next_add-none c.args.self.now c.args.hand c.in-Holds.piece c.in-Holds.played c.in-Holds.field-2 c.in-Holds.is (sym c.get.ensures ∙ ap option_copied c.in_default-get.is))

pub returns-then-played-len-clause-add : goal.returns-then-played-len-clause-add
returns-then-played-len-clause-add c = c.get-then-played-len.ensures ∙ next_add-found c.args.self.now c.args.hand c.in-Holds.piece c.in-Holds.played c.in-Holds.field-2 c.in-Some.work.now c.in-Holds.is (sym c.get.ensures ∙ ap option_copied c.in-Some.is)

pub returns-else-played-len-clause-add : goal.returns-else-played-len-clause-add
returns-else-played-len-clause-add c =
    let past : length c.in-Some.work.now.adds ≤ c.in-Holds.played = omega arith in
    sym (get_past c.in-Some.work.now.adds c.in-Holds.played past) ∙ next_add-found c.args.self.now c.args.hand c.in-Holds.piece c.in-Holds.played c.in-Holds.field-2 c.in-Some.work.now c.in-Holds.is (sym c.get.ensures ∙ ap option_copied c.in-Some.is)
