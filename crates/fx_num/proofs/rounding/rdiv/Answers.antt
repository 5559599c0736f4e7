use Rattle.std.proofs.Common.{◌≡◌, unsigned_abs, FitsSigned, to_z, of_z, rules, ap, ◌∙◌}
use Rattle.std.proofs.lemmas.Int.{to_z-of_z}
use Rattle.std.specs.Int.{is_negative, w128}
use Rattle.fx_num.specs.Rounding.{div_rounded, nearest_of, with_sign}
use Rattle.fx_num.proofs.RoundingLemmas.{div_rounded-signed, div_rounded_nearest}
use Rattle.fx_num.proofs.rounding.rdiv.Goals as goal

value_is : (c : goal.After-signed) → to_z w128 (of_z w128 c.signed.result) ≡ div_rounded c.args.a c.args.b
value_is c =
    let fits : FitsSigned w128 c.signed.result = search rules in
    let read : to_z w128 (of_z w128 c.signed.result) ≡ c.signed.result = to_z-of_z w128 c.signed.result fits in
    let m : c.unsigned_abs.result ≡ unsigned_abs c.args.a = c.unsigned_abs.ensures.value ∙ ap unsigned_abs (to_z-of_z w128 c.args.a c.ranges.a) in
    let m2 : c.unsigned_abs-2.result ≡ unsigned_abs c.args.b = c.unsigned_abs-2.ensures.value ∙ ap unsigned_abs (to_z-of_z w128 c.args.b c.ranges.b) in
    let n : c.is_negative.result ≡ is_negative c.args.a = c.is_negative.ensures ∙ ap is_negative (to_z-of_z w128 c.args.a c.ranges.a) in
    let whole : with_sign (is_negative c.args.a) (nearest_of (unsigned_abs c.args.a) (unsigned_abs c.args.b)) ≡ div_rounded c.args.a c.args.b = div_rounded-signed c.args.a c.args.b in
    cc

pub returns-clause-is : goal.returns-clause-is
returns-clause-is c = value_is c

pub returns-clause-nearest : goal.returns-clause-nearest
returns-clause-nearest c = rw (value_is c) (div_rounded_nearest c.args.a c.args.b (c.requires.positive))
