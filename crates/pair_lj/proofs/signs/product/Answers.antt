use Rattle.std.proofs.Common.{◌≡◌, ◌*◌, ◌^◌, ℕ, not, unsigned_abs, FitsSigned, to_z, of_z, w64, rules, ap, ◌∙◌}
use Rattle.std.specs.Int.{is_negative}
use Rattle.std.proofs.lemmas.Int.{to_z-of_z}
use Rattle.fx_num.specs.Rounding.{nearest_of, with_sign}
use Rattle.pair_lj.proofs.SignLemmas.{product_is}
use Rattle.pair_lj.proofs.signs.product.Goals as goal
use Rattle.std.specs.Bool.{beq}

pub returns-clause-is : goal.returns-clause-is
returns-clause-is c =
    let fits : FitsSigned w64 c.signed.result = search rules in
    let x_is : to_z w64 (of_z w64 c.args.x) ≡ c.args.x = to_z-of_z w64 c.args.x c.ranges.x in
    let sign_is : c.is_negative.result ≡ is_negative c.args.x = c.is_negative.ensures ∙ ap is_negative x_is in
    let magnitude_is : c.unsigned_abs.result ≡ unsigned_abs c.args.x = c.unsigned_abs.ensures.value ∙ ap unsigned_abs x_is in
    let size_is : c.product_size.result ≡ nearest_of (c.args.size * unsigned_abs c.args.x) (2 ^ 32) = c.product_size.ensures ∙ ap (λ (n : ℕ). nearest_of (c.args.size * n) (2 ^ 32)) magnitude_is in
    to_z-of_z w64 c.signed.result fits
    ∙ c.signed.ensures.is
    ∙ ap (with_sign (not (beq c.args.negative c.is_negative.result))) size_is
    ∙ product_is c.args.negative c.is_negative.result c.args.size c.args.x (2 ^ 32) sign_is
