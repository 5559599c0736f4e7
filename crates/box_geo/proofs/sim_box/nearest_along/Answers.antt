use Rattle.std.proofs.Common.{◌≡◌, ℤ, true, FitsSigned, w64, to_z, of_z, rules, sym, ap, ◌∙◌, arith}
use Rattle.std.proofs.lemmas.Int.{ints, to_z-of_z}
use Rattle.box_geo.specs.Sides.{near_along}
use Rattle.box_geo.proofs.StepLemmas.{lowered_by, raised_by, near_along-steps}
use Rattle.box_geo.proofs.sim_box.nearest_along.Goals as goal

pub returns-clause-is : goal.returns-clause-is
returns-clause-is c =
    let fits : FitsSigned w64 c.raised.result = search rules in
    let fits_low : FitsSigned w64 c.lowered.result = search rules in
    let length_fits : FitsSigned w64 c.args.length = c.ranges.length in
    let d_fits : FitsSigned w64 c.args.d = c.ranges.d in
    let low_is : c.lowered.result ≡ lowered_by c.args.length c.args.d = simp to_z-of_z at c.lowered.ensures.is in
    let is : c.raised.result ≡ raised_by c.args.length c.lowered.result = simp to_z-of_z at c.raised.ensures.is in
    to_z-of_z w64 c.raised.result fits ∙ is ∙ ap (raised_by c.args.length) low_is
    ∙ near_along-steps c.args.length c.args.d (omega (arith, ints))
    ∙ ap (λ w. near_along w c.args.length c.args.d) (sym c.if-not-wraps.false)
