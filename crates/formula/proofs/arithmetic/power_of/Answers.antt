use Rattle.std.proofs.Common.{◌≡◌, ◌≤◌, suc, ℤ, Err, to_z, of_z, ap, sym, ◌∙◌, arith}
use Rattle.std.specs.Int.{w64}
use Rattle.std.proofs.lemmas.Int.{to_z-of_z}
use Rattle.formula.specs.Arithmetic.{power_of, times}
use Rattle.formula.proofs.PowerLemmas.{power_stays}
use Rattle.formula.proofs.arithmetic.power_of.Goals as goal

pub returns-in-Err-clause-is : goal.returns-in-Err-clause-is
returns-in-Err-clause-is c =
    let a : ℤ = to_z w64 (of_z w64 c.args.a) in
    let same : a ≡ c.args.a = to_z-of_z w64 c.args.a c.ranges.a in
    let fails : power_of a (suc c.loop.counter) ≡ Err c.in-Err.why = ap (λ r. times r a) c.loop.invariant.0 ∙ sym c.in-Err.ensures.is in
    let more : suc c.loop.counter ≤ c.args.n = omega arith in
    sym (power_stays a c.in-Err.why (suc c.loop.counter) c.args.n more fails) ∙ ap (λ x. power_of x c.args.n) same
