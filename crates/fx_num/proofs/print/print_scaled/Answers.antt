use Rattle.std.proofs.Common.{◌≡◌, ◌++◌, ◌*◌, ◌^◌, ℕ, unsigned_abs, ap, ◌∙◌}
use Rattle.std.specs.Int.{w128}
use Rattle.std.proofs.lemmas.Int.{to_z-of_z}
use Rattle.fx_num.specs.Print.{eight_decimals, scaled_text}
use Rattle.fx_num.specs.Rounding.{nearest_of}
use Rattle.fx_num.proofs.print.print_scaled.Goals as goal

pub returns : goal.returns
unfolding scaled_text
returns c =
    let num : c.unsigned_abs.result ≡ unsigned_abs c.args.num = c.unsigned_abs.ensures.value ∙ ap unsigned_abs (to_z-of_z w128 c.args.num c.ranges.num) in
    let den : c.unsigned_abs-2.result ≡ unsigned_abs c.args.den = c.unsigned_abs-2.ensures.value ∙ ap unsigned_abs (to_z-of_z w128 c.args.den c.ranges.den) in
    let n : c.nearest-hundred_millionths.result ≡ nearest_of (unsigned_abs c.args.num * 10 ^ 8) (unsigned_abs c.args.den) = c.nearest-hundred_millionths.ensures.is ∙ ap (λ (a : ℕ). nearest_of (a * 10 ^ 8) c.unsigned_abs-2.result) num ∙ ap (nearest_of (unsigned_abs c.args.num * 10 ^ 8)) den in
    c.push_decimals.ensures ∙ ap (λ b. b ++ eight_decimals c.nearest-hundred_millionths.result) c.requires.empty ∙ ap eight_decimals n
