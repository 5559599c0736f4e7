use Rattle.std.proofs.Common.{slice_index_or, pos, rules, arith, FitsSigned, w64, ◌+ℤ◌}
use Rattle.std.proofs.lemmas.Int.{ints, to_z-of_z, fits_signed_from_abs}
use Rattle.step_engine.proofs.motion.counted.Goals as goal

pub returns : goal.returns
returns c =
    let x : FitsSigned w64 (slice_index_or c.args.image.now 0 (pos 0)) = search rules in
    let y : FitsSigned w64 (slice_index_or c.args.image.now 1 (pos 0)) = search rules in
    let z : FitsSigned w64 (slice_index_or c.args.image.now 2 (pos 0)) = search rules in
    let i : FitsSigned w64 (slice_index_or c.args.edges.now 0 (pos 0)) = search rules in
    let j : FitsSigned w64 (slice_index_or c.args.edges.now 1 (pos 0)) = search rules in
    let k : FitsSigned w64 (slice_index_or c.args.edges.now 2 (pos 0)) = search rules in
    let xi : FitsSigned w64 (slice_index_or c.args.image.now 0 (pos 0) +ℤ slice_index_or c.args.edges.now 0 (pos 0)) = fits_signed_from_abs w64 _ (omega (arith, ints, c.requires.image, c.requires.few)) in
    let yj : FitsSigned w64 (slice_index_or c.args.image.now 1 (pos 0) +ℤ slice_index_or c.args.edges.now 1 (pos 0)) = fits_signed_from_abs w64 _ (omega (arith, ints, c.requires.image, c.requires.few)) in
    let zk : FitsSigned w64 (slice_index_or c.args.image.now 2 (pos 0) +ℤ slice_index_or c.args.edges.now 2 (pos 0)) = fits_signed_from_abs w64 _ (omega (arith, ints, c.requires.image, c.requires.few)) in
    simp to_z-of_z
