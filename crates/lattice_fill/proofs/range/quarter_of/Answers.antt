use Rattle.std.proofs.Common.{◌≡◌, ◌∙◌, ◌^◌, ◌≤◌, pos, unsigned_abs, FitsSigned, to_z, of_z, w64, arith, ap}
use Rattle.std.specs.Int.{w128}
use Rattle.std.proofs.lemmas.Int.{to_z-of_z, fits_signed_from_abs}
use Rattle.fx_num.specs.Rounding.{div_rounded}
use Rattle.lattice_fill.proofs.range.quarter_of.Goals as goal

pub returns : goal.returns
returns c =
    let given : c.from.result ≡ c.args.length = c.from.ensures ∙ to_z-of_z w64 c.args.length c.ranges.length in
    let small : unsigned_abs c.from.result ≤ 2 ^ 53 = omega (arith, ap unsigned_abs given) in
    let exact : to_z w128 (of_z w128 c.from.result) ≡ c.args.length = to_z-of_z w128 c.from.result (fits_signed_from_abs w128 _ (omega (arith, small))) ∙ given in
    let near : c.rsh.result ≡ div_rounded c.args.length (pos 4) = c.rsh.ensures.is ∙ ap (λ z. div_rounded z (pos 4)) exact in
    let bound : unsigned_abs c.rsh.result ≤ 2 ^ 53 = omega (arith, c.rsh.ensures.bound, ap unsigned_abs exact) in
    let fits : FitsSigned w64 c.rsh.result = fits_signed_from_abs w64 _ (omega (arith, bound)) in
    let whole : to_z w128 (of_z w128 c.rsh.result) ≡ c.rsh.result = to_z-of_z w128 c.rsh.result (fits_signed_from_abs w128 _ (omega (arith, bound))) in
    rw (whole, to_z-of_z w64 c.rsh.result fits) near
