use Rattle.std.proofs.Common.{rules, slice_index_or, [], pos, FitsSigned, w64}
use Rattle.std.proofs.lemmas.Int.{to_z-of_z}
use Rattle.step_engine.specs.Engine.{setting_of}
use Rattle.step_engine.proofs.MotionLemmas.{kicked_from}
use Rattle.step_engine.proofs.motion.kicked.Goals as goal

pub returns : goal.returns
returns c =
    let vx : FitsSigned w64 (slice_index_or c.args.atom.now.v 0 (pos 0)) = search rules in
    let vy : FitsSigned w64 (slice_index_or c.args.atom.now.v 1 (pos 0)) = search rules in
    let vz : FitsSigned w64 (slice_index_or c.args.atom.now.v 2 (pos 0)) = search rules in
    let fx : FitsSigned w64 (slice_index_or c.args.atom.now.f 0 (pos 0)) = search rules in
    let fy : FitsSigned w64 (slice_index_or c.args.atom.now.f 1 (pos 0)) = search rules in
    let fz : FitsSigned w64 (slice_index_or c.args.atom.now.f 2 (pos 0)) = search rules in
    let dt : FitsSigned w64 c.args.rules.now.dt = search rules in
    let m : FitsSigned w64 c.mass_of-mass.result = search rules in
    let x : FitsSigned w64 c.kicked_along.result = search rules in
    let y : FitsSigned w64 c.kicked_along-2.result = search rules in
    let z : FitsSigned w64 c.kicked_along-3.result = search rules in
    let ex = simp to_z-of_z at c.kicked_along.ensures in
    let ey = simp to_z-of_z at c.kicked_along-2.ensures in
    let ez = simp to_z-of_z at c.kicked_along-3.ensures in
    simp to_z-of_z (kicked_from (setting_of c.args.rules.now []) c.args.atom.now c.mass_of-mass.result c.kicked_along.result c.kicked_along-2.result c.kicked_along-3.result c.mass_of-mass.ensures.is ex ey ez)
