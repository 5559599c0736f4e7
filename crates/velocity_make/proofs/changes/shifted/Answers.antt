use Rattle.std.proofs.Common.{◌^◌, pos, to_z, of_z, refl, arith}
use Rattle.std.specs.Int.{w128}
use Rattle.std.proofs.lemmas.Int.{to_z-of_z}
use Rattle.fx_num.specs.Rounding.{div_rounded}
use Rattle.velocity_make.proofs.CastLemmas.{IsRead, quotient_read}
use Rattle.velocity_make.proofs.changes.shifted.Goals as goal

read : (c : goal.After-rsh) → IsRead c.rsh.result (div_rounded c.args.product (pos (2 ^ 24))) (2 ^ 60)
read c =
    quotient_read c.rsh.result c.args.product (to_z w128 (of_z w128 c.args.product)) (pos (2 ^ 24)) (2 ^ 24) (2 ^ 60) c.rsh.ensures.is
    (to_z-of_z w128 c.args.product c.ranges.product) refl (omega arith) (omega (arith, c.requires)) (omega arith)

pub overflow_cast-result : goal.overflow_cast-result
overflow_cast-result c = (read c).fits

pub returns : goal.returns
returns c = (read c).is
