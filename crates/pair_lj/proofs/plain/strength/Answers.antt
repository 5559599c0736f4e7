use Rattle.std.proofs.Common.{◌*◌, ◌^◌, ℤ, pos, ◌*ℤ◌, sym, ap, ◌∙◌}
use Rattle.fx_num.specs.Rounding.{div_rounded, with_sign}
use Rattle.pair_lj.proofs.SignLemmas.{strength_is}
use Rattle.pair_lj.proofs.plain.strength.Goals as goal

pub returns-clause-is : goal.returns-clause-is
returns-clause-is c =
    ap (with_sign c.difference-negative.result.0) c.strength_size.ensures.is
    ∙ sym (strength_is c.difference-negative.result.0 (24 * c.args.epsilon) c.difference-negative.result.1 (2 ^ 24) c.args.r2)
    ∙ ap (λ (z : ℤ). div_rounded (pos (24 * c.args.epsilon) *ℤ z *ℤ pos (2 ^ 24)) (pos c.args.r2)) c.difference-negative.ensures.is
