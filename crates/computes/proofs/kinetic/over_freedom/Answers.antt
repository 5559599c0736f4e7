use Rattle.std.proofs.Common.{◌≡◌, ◌*◌, ◌^◌, ◌≤◌, pos, unsigned_abs, w64, FitsSigned, to_z, of_z, arith}
use Rattle.std.specs.Int.{w128}
use Rattle.std.proofs.lemmas.Int.{to_z-of_z, fits_signed_from_abs}
use Rattle.fx_num.specs.Rounding.{div_rounded}
use Rattle.computes.proofs.QuotientLemmas.{quotient_bound, read_quotient}
use Rattle.computes.proofs.kinetic.over_freedom.Goals as goal

value_is : (c : goal.After-rdiv) → c.rdiv.result ≡ div_rounded c.args.s (pos (c.args.freedom * 2 ^ 48))
value_is c = read_quotient c.rdiv.result c.args.s c.from.result c.args.freedom (2 ^ 48) c.ranges.s c.from.ensures (omega arith) (omega arith) c.rdiv.ensures.is

value_bound : (c : goal.After-rdiv) → unsigned_abs c.rdiv.result ≤ 2 ^ 48
value_bound c = rw (value_is c) (quotient_bound c.args.s (c.args.freedom * 2 ^ 48) (2 ^ 48) (omega arith) (omega arith))

same : (c : goal.After-rdiv) → to_z w128 (of_z w128 c.rdiv.result) ≡ c.rdiv.result
same c = to_z-of_z w128 c.rdiv.result (fits_signed_from_abs w128 _ (omega (arith, value_bound c)))

fits : (c : goal.After-rdiv) → FitsSigned w64 c.rdiv.result
fits c = fits_signed_from_abs w64 _ (omega (arith, value_bound c))

pub overflow_cast-result : goal.overflow_cast-result
overflow_cast-result c = rw (same c) (fits c)

pub returns-clause-is : goal.returns-clause-is
returns-clause-is c = rw (same c, to_z-of_z w64 c.rdiv.result (fits c)) (value_is c)

pub returns-clause-bound : goal.returns-clause-bound
returns-clause-bound c = rw (same c, to_z-of_z w64 c.rdiv.result (fits c)) (value_bound c)
