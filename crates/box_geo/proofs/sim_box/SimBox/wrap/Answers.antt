use Rattle.std.proofs.Common.{slice_index_or, pos, FitsSigned, w64, rules, sym, ◌∙◌}
use Rattle.std.proofs.lemmas.Int.{to_z-of_z}
use Rattle.box_geo.specs.Sides.{IsSound}
use Rattle.box_geo.proofs.NearLemmas.{sound_edges}
use Rattle.box_geo.proofs.WrapLemmas.{wrap-x, wrap-y, wrap-z, wrap-by, wrap-inside, lost_along-z}
use Rattle.box_geo.proofs.sim_box.SimBox.wrap.Goals as goal

pub returns-then-loses-clause-is : goal.returns-then-loses-clause-is
returns-then-loses-clause-is c =
    let fx : FitsSigned w64 (slice_index_or c.args.x 0 (pos 0)) = search rules in
    let x = simp to_z-of_z at c.loses.ensures in
    wrap-x c.args.self.now.sides c.args.x (sym x ∙ c.if-loses.true)

pub returns-then-loses-2-clause-is : goal.returns-then-loses-2-clause-is
returns-then-loses-2-clause-is c =
    let fx : FitsSigned w64 (slice_index_or c.args.x 0 (pos 0)) = search rules in
    let fy : FitsSigned w64 (slice_index_or c.args.x 1 (pos 0)) = search rules in
    let x = simp to_z-of_z at c.loses.ensures in
    let y = simp to_z-of_z at c.loses-2.ensures in
    wrap-y c.args.self.now.sides c.args.x (sym x ∙ c.if-loses.false) (sym y ∙ c.if-loses-2.true)

pub returns-then-loses-3-clause-is : goal.returns-then-loses-3-clause-is
returns-then-loses-3-clause-is c =
    let fx : FitsSigned w64 (slice_index_or c.args.x 0 (pos 0)) = search rules in
    let fy : FitsSigned w64 (slice_index_or c.args.x 1 (pos 0)) = search rules in
    let fz : FitsSigned w64 (slice_index_or c.args.x 2 (pos 0)) = search rules in
    let x = simp to_z-of_z at c.loses.ensures in
    let y = simp to_z-of_z at c.loses-2.ensures in
    let z = lost_along-z c.args.self.now.sides c.args.x _ _ c.z_wraps.ensures (simp to_z-of_z at c.loses-3.ensures) in
    wrap-z c.args.self.now.sides c.args.x (sym x ∙ c.if-loses.false) (sym y ∙ c.if-loses-2.false) (z ∙ c.if-loses-3.true)

pub returns-clause-is : goal.returns-clause-is
returns-clause-is c =
    let fx : FitsSigned w64 (slice_index_or c.args.x 0 (pos 0)) = search rules in
    let fy : FitsSigned w64 (slice_index_or c.args.x 1 (pos 0)) = search rules in
    let fz : FitsSigned w64 (slice_index_or c.args.x 2 (pos 0)) = search rules in
    let x = simp to_z-of_z at c.loses.ensures in
    let y = simp to_z-of_z at c.loses-2.ensures in
    let z = lost_along-z c.args.self.now.sides c.args.x _ _ c.z_wraps.ensures (simp to_z-of_z at c.loses-3.ensures) in
    wrap-by c.args.self.now.sides c.args.x c.less_edges.result c.edges_off-edges.result (sym x ∙ c.if-loses.false) (sym y ∙ c.if-loses-2.false) (z ∙ c.if-loses-3.false) c.edges_off-edges.ensures.is c.less_edges.ensures

pub returns-clause-inside : goal.returns-clause-inside
returns-clause-inside c =
    let fx : FitsSigned w64 (slice_index_or c.args.x 0 (pos 0)) = search rules in
    let fy : FitsSigned w64 (slice_index_or c.args.x 1 (pos 0)) = search rules in
    let fz : FitsSigned w64 (slice_index_or c.args.x 2 (pos 0)) = search rules in
    let x = simp to_z-of_z at c.loses.ensures in
    let y = simp to_z-of_z at c.loses-2.ensures in
    let z = lost_along-z c.args.self.now.sides c.args.x _ _ c.z_wraps.ensures (simp to_z-of_z at c.loses-3.ensures) in
    let s : IsSound c.args.self.now.sides = search rules in
    wrap-inside c.args.self.now.sides c.args.x _ (sound_edges c.args.self.now.sides s)
    (wrap-by c.args.self.now.sides c.args.x c.less_edges.result c.edges_off-edges.result (sym x ∙ c.if-loses.false) (sym y ∙ c.if-loses-2.false) (z ∙ c.if-loses-3.false) c.edges_off-edges.ensures.is c.less_edges.ensures)
