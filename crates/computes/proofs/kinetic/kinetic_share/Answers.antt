use Rattle.std.proofs.Common.{rules, ◌≡◌, ◌*◌, ◌^◌, ◌≤◌, pos, unsigned_abs, FitsSigned, arith}
use Rattle.std.specs.Int.{w128}
use Rattle.std.proofs.lemmas.Int.{to_z-of_z}
use Rattle.fx_num.specs.Rounding.{div_rounded}
use Rattle.computes.proofs.QuotientLemmas.{quotient_bound, read_quotient}
use Rattle.computes.proofs.kinetic.kinetic_share.Goals as goal

pub returns-else-n-eq0-clause-small : goal.returns-else-n-eq0-clause-small
returns-else-n-eq0-clause-small c = λ (low : unsigned_abs c.args.s ≤ 3 * c.args.n * 2 ^ 94).
    let fits : FitsSigned w128 c.rdiv.result = search rules in
    let is : c.rdiv.result ≡ div_rounded c.args.s (pos (c.args.n * 2 ^ 49)) = read_quotient c.rdiv.result c.args.s c.from.result c.args.n (2 ^ 49) c.ranges.s c.from.ensures (omega arith) (omega arith) c.rdiv.ensures.is in
    rw (to_z-of_z w128 c.rdiv.result fits, is) (quotient_bound c.args.s (c.args.n * 2 ^ 49) (2 ^ 48) (omega arith) (omega arith))
