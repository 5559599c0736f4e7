use Rattle.std.proofs.Common.{◌≡◌, ◌^◌, ◌≤◌, unsigned_abs, FitsSigned, to_z, of_z, arith, rules, ap}
use Rattle.std.specs.Int.{w128}
use Rattle.std.proofs.lemmas.Int.{to_z-of_z}
use Rattle.computes.specs.Quantities.{pressure}
use Rattle.computes.proofs.PressureLemmas.{pressure_fits}
use Rattle.computes.proofs.pressure.press.Goals as goal

pub returns-clause-small : goal.returns-clause-small
returns-clause-small c = λ (a : unsigned_abs c.args.s ≤ 2 ^ 112) (b : unsigned_abs c.args.w ≤ 2 ^ 80).
    let f1 : FitsSigned w128 c.rdiv.result = search rules in
    let f2 : FitsSigned w128 c.scaled.result = search rules in
    let e1 : to_z w128 (of_z w128 c.rdiv.result) ≡ c.rdiv.result = to_z-of_z w128 c.rdiv.result f1 in
    let e2 : to_z w128 (of_z w128 c.scaled.result) ≡ c.scaled.result = to_z-of_z w128 c.scaled.result f2 in
    let e3 : to_z w128 (of_z w128 c.args.s) ≡ c.args.s = to_z-of_z w128 c.args.s c.ranges.s in
    let e4 : to_z w128 (of_z w128 c.args.w) ≡ c.args.w = to_z-of_z w128 c.args.w c.ranges.w in
    let below : unsigned_abs c.rdiv.result ≤ unsigned_abs (to_z w128 (of_z w128 c.scaled.result)) = c.rdiv.ensures.bound in
    let small : unsigned_abs c.scaled.result ≤ 2 ^ 98 = c.scaled.ensures.small (rw e3 a) (rw e4 b) in
    omega (arith, ap unsigned_abs e1, ap unsigned_abs e2)

value_is : (c : goal.After-rdiv) → to_z w128 (of_z w128 c.rdiv.result) ≡ pressure c.args.s c.args.w c.args.cell.now.sides
unfolding pressure
value_is c = search rules

pub returns-clause-fits : goal.returns-clause-fits
returns-clause-fits c = λ kinetic reached virial. rw (value_is c) (pressure_fits c.args.s c.args.w c.args.cell.now.sides c.args.cell.now.sound kinetic reached virial)
