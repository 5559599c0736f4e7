use Rattle.std.proofs.Common.{◌≡◌, ◌*◌, ◌^◌, ◌++◌, ℕ, unsigned_abs, to_z, of_z, ap, ◌∙◌}
use Rattle.std.specs.Int.{w128}
use Rattle.std.proofs.lemmas.Int.{to_z-of_z}
use Rattle.fx_num.specs.Rounding.{nearest_of}
use Rattle.fx_num.specs.Print.{sign_text, eight_decimals, fix_text}
use Rattle.fx_num.proofs.PrintLemmas.{length-fix_text, IsAscii-fix_text}
use Rattle.fx_num.proofs.print.print_fix.Goals as goal

pub returns-clause-text : goal.returns-clause-text
unfolding fix_text
returns-clause-text c =
    let v : to_z w128 (of_z w128 c.args.v) ≡ c.args.v = to_z-of_z w128 c.args.v c.ranges.v in
    let m : c.unsigned_abs.result ≡ unsigned_abs c.args.v = c.unsigned_abs.ensures.value ∙ ap unsigned_abs v in
    let n : c.rounded_decimals.result ≡ nearest_of (unsigned_abs c.args.v * 10 ^ 8) (2 ^ 24) = c.rounded_decimals.ensures ∙ ap (λ (a : ℕ). nearest_of (a * 10 ^ 8) (2 ^ 24)) m in
    let s : c.push_sign.new.out.bytes ≡ sign_text c.args.v = c.push_sign.ensures.text ∙ ap (λ b. b ++ sign_text (to_z w128 (of_z w128 c.args.v))) c.requires.empty ∙ ap sign_text v in
    c.push_decimals.ensures ∙ ap (λ b. b ++ eight_decimals c.rounded_decimals.result) s ∙ ap (λ (k : ℕ). sign_text c.args.v ++ eight_decimals k) n

pub returns-clause-short : goal.returns-clause-short
returns-clause-short c = length-fix_text c.args.v c.requires.magnitude

pub returns-clause-ascii : goal.returns-clause-ascii
returns-clause-ascii c = IsAscii-fix_text c.args.v c.requires.magnitude
