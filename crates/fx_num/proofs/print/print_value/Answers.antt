use Rattle.std.proofs.Common.{◌≡◌, FitsSigned, to_z, of_z, length, IsAscii, subst, ◌≤◌, ap, ◌∙◌, arith, rules}
use Rattle.std.specs.Int.{w64, w128}
use Rattle.std.proofs.lemmas.Int.{to_z-of_z}
use Rattle.fx_num.specs.Print.{fix_text, value_text, without_last}
use Rattle.fx_num.proofs.print.print_value.Goals as goal

text_is : (c : goal.After-drop_last-2) → c.drop_last-2.new.out.bytes ≡ value_text c.args.v
unfolding value_text
text_is c =
    let v : c.from.result ≡ c.args.v = c.from.ensures ∙ to_z-of_z w64 c.args.v c.ranges.v in
    let fits : FitsSigned w128 c.from.result = search rules in
    let wide : to_z w128 (of_z w128 c.from.result) ≡ c.args.v = to_z-of_z w128 c.from.result fits ∙ v in
    c.drop_last-2.ensures.text ∙ ap (without_last 46) (c.drop_last.ensures.text ∙ ap (without_last 48) (c.print_fix.ensures.text ∙ ap fix_text wide))

pub returns-clause-text : goal.returns-clause-text
returns-clause-text c = text_is c

pub returns-clause-short : goal.returns-clause-short
returns-clause-short c =
    let printed : length c.print_fix.new.out.bytes ≤ 33 = omega (arith, ap length c.print_fix.ensures.text, c.print_fix.ensures.short) in
    omega (arith, ap length (text_is c), c.drop_last.ensures.short, c.drop_last-2.ensures.short)

pub returns-clause-ascii : goal.returns-clause-ascii
returns-clause-ascii c = subst IsAscii (text_is c) c.drop_last-2.ensures.ascii
