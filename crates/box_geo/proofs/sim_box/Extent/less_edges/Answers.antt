use Rattle.std.proofs.Common.{ℤ, ◌-ℤ◌, ◌*ℤ◌, FitsSigned, w64, rules, ap, ◌∙◌}
use Rattle.std.proofs.lemmas.Int.{to_z-of_z}
use Rattle.box_geo.proofs.WrapLemmas.{less_fits}
use Rattle.box_geo.proofs.sim_box.Extent.less_edges.Goals as goal

pub returns : goal.returns
returns c =
    let x : FitsSigned w64 c.args.x = c.ranges.x in
    let e : FitsSigned w64 c.args.edges = c.ranges.edges in
    let l : FitsSigned w64 c.edge.result = search rules in
    let p : FitsSigned w64 c.length_of.result = search rules in
    let i = simp to_z-of_z at c.length_of.ensures.is in
    let f : FitsSigned w64 (c.args.x -ℤ c.length_of.result) = less_fits c.args.x c.length_of.result c.requires.x c.length_of.ensures.bound in
    simp to_z-of_z (ap (λ (m : ℤ). c.args.x -ℤ m) (i ∙ ap (λ (m : ℤ). c.args.edges *ℤ m) c.edge.ensures.is))
