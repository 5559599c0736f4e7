use Rattle.std.proofs.Common.{◌∙◌, ◌^◌, ℤ, pos, to_z, of_z, ap, arith}
use Rattle.std.specs.Int.{w128}
use Rattle.fx_num.specs.Rounding.{div_rounded}
use Rattle.velocity_make.proofs.CastLemmas.{IsRead, quotient_read, same128}
use Rattle.velocity_make.proofs.draws.component.Goals as goal

read : (c : goal.After-rdiv) → IsRead c.rdiv.result (div_rounded c.dividend.result (pos c.args.root)) (2 ^ 29)
read c =
    quotient_read c.rdiv.result c.dividend.result (to_z w128 (of_z w128 c.dividend.result)) (to_z w128 (of_z w128 c.from.result)) c.args.root (2 ^ 29) c.rdiv.ensures.is
    (same128 c.dividend.result (omega (arith, c.dividend.ensures.bound)))
    (ap (λ (z : ℤ). to_z w128 (of_z w128 z)) c.from.ensures ∙ same128 (pos c.args.root) (omega (arith, c.requires.1)))
    (omega (arith, c.requires.0)) (omega (arith, c.dividend.ensures.bound, c.requires.0)) (omega arith)

pub returns-clause-bound : goal.returns-clause-bound
returns-clause-bound c = (read c).bound
