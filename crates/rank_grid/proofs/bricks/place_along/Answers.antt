use Rattle.std.proofs.Common.{FitsSigned, w64, rules, arith}
use Rattle.std.proofs.lemmas.Int.{to_z-of_z}
use Rattle.rank_grid.proofs.SideLemmas.{quotient_below}
use Rattle.rank_grid.proofs.bricks.place_along.Goals as goal

pub overflow_cast-result : goal.overflow_cast-result
overflow_cast-result c =
    let x : FitsSigned w64 c.args.x = search rules in
    let lo : FitsSigned w64 c.args.extent.now.lo = search rules in
    let hi : FitsSigned w64 c.args.extent.now.hi = search rules in
    let below = quotient_below c.args.parts c.args.extent.now c.args.x c.abs_diff-offset.result c.abs_diff-edge.result c.from.result c.requires.some c.requires.inside
    (simp to_z-of_z at c.abs_diff-offset.ensures) (simp to_z-of_z at c.abs_diff-edge.ensures) c.from.ensures in
    omega arith

pub returns-clause-bound : goal.returns-clause-bound
returns-clause-bound c =
    let x : FitsSigned w64 c.args.x = search rules in
    let lo : FitsSigned w64 c.args.extent.now.lo = search rules in
    let hi : FitsSigned w64 c.args.extent.now.hi = search rules in
    quotient_below c.args.parts c.args.extent.now c.args.x c.abs_diff-offset.result c.abs_diff-edge.result c.from.result c.requires.some c.requires.inside
    (simp to_z-of_z at c.abs_diff-offset.ensures) (simp to_z-of_z at c.abs_diff-edge.ensures) c.from.ensures
