use Rattle.std.proofs.Common.{rules, ◌≡◌, ◌*◌, ◌≤◌, ℕ, ℤ, pos, unsigned_abs, FitsSigned, to_z, of_z, arith, ap, ◌∙◌}
use Rattle.std.specs.Int.{w128}
use Rattle.std.proofs.lemmas.Int.{to_z-of_z}
use Rattle.fx_num.specs.Rounding.{div_rounded}
use Rattle.computes.proofs.QuotientLemmas.{quotient_bound}
use Rattle.computes.proofs.energy.share.Goals as goal

pub returns-else-n-eq0-clause-small : goal.returns-else-n-eq0-clause-small
returns-else-n-eq0-clause-small c = λ (b : ℕ) (low : unsigned_abs c.args.e ≤ c.args.n * b).
    let f1 : FitsSigned w128 c.rdiv.result = search rules in
    let f2 : FitsSigned w128 c.from.result = search rules in
    let is : c.rdiv.result ≡ div_rounded c.args.e (pos c.args.n) =
    c.rdiv.ensures.is
    ∙ ap (λ (z : ℤ). div_rounded z (to_z w128 (of_z w128 c.from.result))) (to_z-of_z w128 c.args.e c.ranges.e)
    ∙ ap (div_rounded c.args.e) (to_z-of_z w128 c.from.result f2 ∙ c.from.ensures) in
    rw (to_z-of_z w128 c.rdiv.result f1, is) (quotient_bound c.args.e c.args.n b (omega arith) (omega arith))
