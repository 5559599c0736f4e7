use Rattle.std.proofs.Common.{rules, arith, ap, ℤ, ◌+ℤ◌, FitsSigned, w64}
use Rattle.std.proofs.lemmas.Int.{ints, to_z-of_z, fits_signed_from_abs}
use Rattle.step_engine.proofs.motion.kicked_along.Goals as goal

pub returns : goal.returns
returns c =
    let v : FitsSigned w64 c.args.v = c.ranges.v in
    let f : FitsSigned w64 c.args.f = c.ranges.f in
    let dt : FitsSigned w64 c.args.dt = c.ranges.dt in
    let mass : FitsSigned w64 c.args.mass = c.ranges.mass in
    let p : FitsSigned w64 c.push_along.result = search rules in
    let sum : FitsSigned w64 (c.args.v +ℤ c.push_along.result) = fits_signed_from_abs w64 (c.args.v +ℤ c.push_along.result) (omega (arith, ints)) in
    let e = simp to_z-of_z at c.push_along.ensures.is in
    simp to_z-of_z (ap (λ (z : ℤ). c.args.v +ℤ z) e)
