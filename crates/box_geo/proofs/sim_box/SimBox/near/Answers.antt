use Rattle.std.proofs.Common.{slice_index_or, pos, FitsSigned, w64, rules}
use Rattle.std.proofs.lemmas.Int.{to_z-of_z}
use Rattle.box_geo.proofs.NearLemmas.{near_image_from}
use Rattle.box_geo.proofs.sim_box.SimBox.near.Goals as goal

pub returns-clause-is : goal.returns-clause-is
returns-clause-is c =
    let ax : FitsSigned w64 (slice_index_or c.args.a 0 (pos 0)) = search rules in
    let bx : FitsSigned w64 (slice_index_or c.args.b 0 (pos 0)) = search rules in
    let ay : FitsSigned w64 (slice_index_or c.args.a 1 (pos 0)) = search rules in
    let by : FitsSigned w64 (slice_index_or c.args.b 1 (pos 0)) = search rules in
    let az : FitsSigned w64 (slice_index_or c.args.a 2 (pos 0)) = search rules in
    let bz : FitsSigned w64 (slice_index_or c.args.b 2 (pos 0)) = search rules in
    let x : FitsSigned w64 c.near.result = search rules in
    let y : FitsSigned w64 c.near-2.result = search rules in
    let z : FitsSigned w64 c.near-3.result = search rules in
    let ex = simp to_z-of_z at c.near.ensures.is in
    let ey = simp to_z-of_z at c.near-2.ensures.is in
    let ez = simp to_z-of_z at c.near-3.ensures.is in
    simp to_z-of_z (near_image_from c.args.self.now.sides c.args.a c.args.b _ _ _ c.z_wraps.result c.z_wraps.ensures ex ey ez)
