use Rattle.std.proofs.Common.{◌*◌, ℤ, pos, ◌*ℤ◌, FitsSigned, w64, rules, sym, ap, ◌∙◌}
use Rattle.std.proofs.lemmas.Int.{to_z-of_z}
use Rattle.fx_num.specs.Rounding.{shr_rounded, with_sign}
use Rattle.pair_lj.proofs.SignLemmas.{energy_is}
use Rattle.pair_lj.proofs.quick.whole_energy.Goals as goal

pub returns-clause-is : goal.returns-clause-is
returns-clause-is c =
    let fits : FitsSigned w64 c.signed.result = search rules in
    to_z-of_z w64 c.signed.result fits
    ∙ c.signed.ensures.is
    ∙ ap (with_sign c.difference-negative.result.0) c.energy_size.ensures.is
    ∙ sym (energy_is c.difference-negative.result.0 (4 * c.args.epsilon) c.difference-negative.result.1 32)
    ∙ ap (λ (z : ℤ). shr_rounded (pos (4 * c.args.epsilon) *ℤ z) 32) c.difference-negative.ensures.is
