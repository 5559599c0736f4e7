use Rattle.std.proofs.Common.{◌∙◌, ◌^◌, ◌<◌, ℤ, pos, to_z, of_z, ap, sym, arith}
use Rattle.std.specs.Int.{w128}
use Rattle.std.proofs.lemmas.Int.{to_z-of_z}
use Rattle.fx_num.specs.Rounding.{div_rounded}
use Rattle.velocity_make.proofs.CastLemmas.{IsRead, quotient_read, same128}
use Rattle.velocity_make.proofs.SumLemmas.{velocity_some}
use Rattle.velocity_make.proofs.groups.velocity_of.Goals as goal

some : (c : goal.After-rdiv) → 0 < c.args.mass
some c = grind (arith, c.if-mass-eq0.false)

read : (c : goal.After-rdiv) → IsRead c.rdiv.result (div_rounded c.args.momentum (pos c.args.mass)) (2 ^ 32)
read c =
    quotient_read c.rdiv.result c.args.momentum (to_z w128 (of_z w128 c.args.momentum)) (to_z w128 (of_z w128 c.from.result)) c.args.mass (2 ^ 32) c.rdiv.ensures.is
    (to_z-of_z w128 c.args.momentum c.ranges.momentum)
    (ap (λ (z : ℤ). to_z w128 (of_z w128 z)) c.from.ensures ∙ same128 (pos c.args.mass) (omega (arith, c.requires.mass)))
    (some c) c.requires.momentum (omega arith)

pub overflow_cast-result : goal.overflow_cast-result
overflow_cast-result c = (read c).fits

pub returns-clause-is : goal.returns-clause-is
returns-clause-is c = (read c).is ∙ sym (velocity_some c.args.momentum c.args.mass (some c))

pub returns-clause-slow : goal.returns-clause-slow
returns-clause-slow c = (read c).bound
