use Rattle.std.proofs.Common.{◌∙◌, ◌-◌, ap}
use Rattle.var_table.proofs.StyleLemmas.{more_is, next_is}
use Rattle.var_table.proofs.variable.has_more.Goals as goal

pub returns-clause-more : goal.returns-clause-more
returns-clause-more c = more_is c.args.values.now c.args.past c.saturating_sub.result (c.saturating_sub.ensures ∙ ap (λ n. n - c.args.past) c.len.ensures)

pub returns-clause-next : goal.returns-clause-next
returns-clause-next c = next_is c.args.values.now c.args.past c.saturating_sub.result (c.saturating_sub.ensures ∙ ap (λ n. n - c.args.past) c.len.ensures)
