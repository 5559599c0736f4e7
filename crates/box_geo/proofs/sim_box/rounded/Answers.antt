use Rattle.std.proofs.Common.{◌^◌, ◌≤◌, ◌<◌, pos, w64, arith, ap, ◌∙◌}
use Rattle.std.proofs.lemmas.Int.{to_z_pos}
use Rattle.std.proofs.lemmas.Nat.{pow_pos}
use Rattle.fx_num.specs.Rounding.{nearest_of}
use Rattle.fx_num.proofs.RoundingLemmas.{nearest_of-le}
use Rattle.box_geo.proofs.sim_box.rounded.Goals as goal

pub overflow_cast-result : goal.overflow_cast-result
overflow_cast-result c =
    let e : nearest_of c.args.product (2 ^ c.args.places) ≤ 2 ^ 54 = nearest_of-le c.args.product (2 ^ c.args.places) (2 ^ 54) (pow_pos c.args.places) c.requires.few in
    omega (arith, e, c.nearest_shift.ensures.is)

pub returns : goal.returns
returns c =
    let e : nearest_of c.args.product (2 ^ c.args.places) ≤ 2 ^ 54 = nearest_of-le c.args.product (2 ^ c.args.places) (2 ^ 54) (pow_pos c.args.places) c.requires.few in
    let small : c.nearest_shift.result < 2 ^ 63 = omega (arith, e, c.nearest_shift.ensures.is) in
    to_z_pos w64 c.nearest_shift.result small ∙ ap pos c.nearest_shift.ensures.is
