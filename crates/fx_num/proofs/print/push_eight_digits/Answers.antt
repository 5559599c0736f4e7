use Rattle.std.proofs.Common.{◌≡◌, length, ap, ◌∙◌, arith}
use Rattle.std.proofs.lemmas.Str.{IsCharBoundary-from_ascii}
use Rattle.fx_num.proofs.PrintLemmas.{length-nine_digits}
use Rattle.fx_num.proofs.print.push_eight_digits.Goals as goal

pub range_from-requires : goal.range_from-requires
range_from-requires c =
    let nine : length c.format.result.now ≡ 9 = ap length c.format.ensures.text ∙ length-nine_digits c.args.n c.requires.below in
    λ _. IsCharBoundary-from_ascii c.format.result.now 1 c.format.ensures.ascii (omega arith)

pub push_str-requires : goal.push_str-requires
push_str-requires c =
    let nine : length c.format.result.now ≡ 9 = ap length c.format.ensures.text ∙ length-nine_digits c.args.n c.requires.below in
    (omega arith, omega arith)
