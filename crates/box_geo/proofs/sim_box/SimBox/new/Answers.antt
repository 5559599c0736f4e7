use Rattle.std.proofs.Common.{rules, slice_index_or, pos, FitsSigned, w64, sym, ◌∙◌}
use Rattle.std.proofs.lemmas.Int.{to_z-of_z}
use Rattle.box_geo.proofs.NearLemmas.{sides_sound}
use Rattle.box_geo.proofs.sim_box.SimBox.new.Goals as goal

pub invariant_of-result : goal.invariant_of-result
invariant_of-result c =
    let fx : FitsSigned w64 (slice_index_or c.args.lo 0 (pos 0)) = search rules in
    let gx : FitsSigned w64 (slice_index_or c.args.hi 0 (pos 0)) = search rules in
    let fy : FitsSigned w64 (slice_index_or c.args.lo 1 (pos 0)) = search rules in
    let gy : FitsSigned w64 (slice_index_or c.args.hi 1 (pos 0)) = search rules in
    let fz : FitsSigned w64 (slice_index_or c.args.lo 2 (pos 0)) = search rules in
    let gz : FitsSigned w64 (slice_index_or c.args.hi 2 (pos 0)) = search rules in
    let s = sides_sound c.args.lo c.args.hi c.args.periodic c.args.dim c.requires.0 c.requires.1 (sym c.box_fault.ensures ∙ c.in_default.is) in
    record { sound = simp to_z-of_z s }
