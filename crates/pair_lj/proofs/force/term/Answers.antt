use Rattle.std.proofs.Common.{ℤ, FitsSigned, w64, rules}
use Rattle.fx_num.specs.Rounding.{with_sign}
use Rattle.pair_lj.proofs.Cases.{component_is, force_is}
use Rattle.pair_lj.proofs.force.term.Goals as goal

pub returns-clause-force : goal.returns-clause-force
returns-clause-force c =
    let fits_f : FitsSigned w64 c.product-f.result = search rules in
    let fits_g : FitsSigned w64 c.product-g.result = search rules in
    let fits_h : FitsSigned w64 c.product-h.result = search rules in
    let v : ℤ = with_sign c.args.negative c.args.size in
    force_is _ _ _ v c.args.x c.args.y c.args.z
    (component_is c.product-f.result v c.args.x fits_f c.ranges.x c.product-f.ensures.is)
    (component_is c.product-g.result v c.args.y fits_g c.ranges.y c.product-g.ensures.is)
    (component_is c.product-h.result v c.args.z fits_h c.ranges.z c.product-h.ensures.is)
