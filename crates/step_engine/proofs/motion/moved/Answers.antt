use Rattle.std.proofs.Common.{slice_index_or, pos, rules, FitsSigned, w64}
use Rattle.std.proofs.lemmas.Int.{to_z-of_z}
use Rattle.step_engine.proofs.MotionLemmas.{same_vector}
use Rattle.step_engine.proofs.motion.moved.Goals as goal

pub returns-clause-is : goal.returns-clause-is
returns-clause-is c =
    let vx : FitsSigned w64 (slice_index_or c.args.atom.now.v 0 (pos 0)) = search rules in
    let vy : FitsSigned w64 (slice_index_or c.args.atom.now.v 1 (pos 0)) = search rules in
    let vz : FitsSigned w64 (slice_index_or c.args.atom.now.v 2 (pos 0)) = search rules in
    let xx : FitsSigned w64 (slice_index_or c.args.atom.now.x 0 (pos 0)) = search rules in
    let xy : FitsSigned w64 (slice_index_or c.args.atom.now.x 1 (pos 0)) = search rules in
    let xz : FitsSigned w64 (slice_index_or c.args.atom.now.x 2 (pos 0)) = search rules in
    let dt : FitsSigned w64 c.args.rules.now.dt = search rules in
    let x : FitsSigned w64 c.moved_along.result = search rules in
    let y : FitsSigned w64 c.moved_along-2.result = search rules in
    let z : FitsSigned w64 c.moved_along-3.result = search rules in
    let ex = simp to_z-of_z at c.moved_along.ensures.is in
    let ey = simp to_z-of_z at c.moved_along-2.ensures.is in
    let ez = simp to_z-of_z at c.moved_along-3.ensures.is in
    simp to_z-of_z (same_vector ex ey ez)
