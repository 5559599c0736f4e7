use Rattle.std.proofs.Common.{ℤ, ◌-ℤ◌, FitsSigned, w64, rules, ap, ◌∙◌}
use Rattle.std.proofs.lemmas.Int.{to_z-of_z}
use Rattle.box_geo.specs.Sides.{near_along}
use Rattle.box_geo.proofs.NearLemmas.{difference_fits}
use Rattle.box_geo.proofs.sim_box.Extent.near.Goals as goal

pub returns-clause-is : goal.returns-clause-is
returns-clause-is c =
    let a : FitsSigned w64 c.args.a = c.ranges.a in
    let b : FitsSigned w64 c.args.b = c.ranges.b in
    let d : FitsSigned w64 (c.args.a -ℤ c.args.b) = difference_fits c.args.self.now c.args.a c.args.b c.requires.sound c.requires.first c.requires.second in
    let l : FitsSigned w64 c.edge.result = search rules in
    let r : FitsSigned w64 c.nearest_along.result = search rules in
    let e = simp to_z-of_z at c.nearest_along.ensures.is in
    simp to_z-of_z (e ∙ ap (λ (m : ℤ). near_along c.args.wraps m (c.args.a -ℤ c.args.b)) c.edge.ensures.is)
