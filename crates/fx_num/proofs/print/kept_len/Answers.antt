use Rattle.std.proofs.Common.{arith, sym, ◌∙◌}
use Rattle.fx_num.proofs.ValueLemmas.{kept_less, kept_all}
use Rattle.fx_num.proofs.print.kept_len.Goals as goal

pub loop-kept-preserved : goal.loop-kept-preserved
loop-kept-preserved c =
    (omega arith, kept_less c.args.last c.loop-kept.kept c.args.text.now (omega arith) c.loop-kept.invariant.0 c.if-text-kept.true ∙ c.loop-kept.invariant.1)

pub returns-else-text-kept-clause-rest : goal.returns-else-text-kept-clause-rest
returns-else-text-kept-clause-rest c =
    sym (kept_all c.args.last c.loop-kept.kept c.args.text.now (omega arith) c.loop-kept.invariant.0 c.if-text-kept.false) ∙ c.loop-kept.invariant.1
