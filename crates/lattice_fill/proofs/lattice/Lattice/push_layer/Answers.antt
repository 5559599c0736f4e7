use Rattle.std.proofs.Common.{◌+◌, ◌+ℤ◌, pos, ◌<◌, ◌++◌, ℤ, List, length, ◌∙◌, ap, subst}
use Rattle.box_geo.specs.declared.limits.TheConstants.{MAX_ATOMS}
use Rattle.lattice_fill.specs.Points.{inside_of_row}
use Rattle.lattice_fill.proofs.PassLemmas.{over_cells, passed_more, passed_over, same_number}
use Rattle.lattice_fill.proofs.lattice.Lattice.push_layer.Goals as goal

pub returns-in-Err-clause-many : goal.returns-in-Err-clause-many
returns-in-Err-clause-many c = λ e.
    let f : ℤ → List (List ℤ) = inside_of_row c.args.self.now.style c.args.self.now.spacings c.args.cell.now.sides c.args.z.now in
    over_cells f c.args.cell.now.sides.y c.along-rows.result.first c.args.self.now.spacings.y c.along-rows.result.count MAX_ATOMS c.args.points.now c.along-rows.ensures.first c.along-rows.ensures.count
    (passed_over f c.along-rows.result.first c.along-rows.result.count c.loop-n.n MAX_ATOMS c.args.points.now c.loop-n.points c.loop-n-test.true c.loop-n.invariant
    (subst (λ (i : ℤ). MAX_ATOMS < length c.loop-n.points + length (f i)) (same_number c.number.result (c.along-rows.result.first +ℤ pos c.loop-n.n) c.number.ensures.bound c.number.ensures.is) (c.in-Err.ensures.many e)))

pub loop-n-preserved : goal.loop-n-preserved
loop-n-preserved c =
    let f : ℤ → List (List ℤ) = inside_of_row c.args.self.now.style c.args.self.now.spacings c.args.cell.now.sides c.args.z.now in
    passed_more f c.along-rows.result.first c.along-rows.result.count c.loop-n.n MAX_ATOMS c.args.points.now c.loop-n.points c.push_row.new.points c.loop-n-test.true c.loop-n.invariant
    (c.in-Ok.ensures.added ∙ ap (λ (i : ℤ). c.loop-n.points ++ f i) (same_number c.number.result (c.along-rows.result.first +ℤ pos c.loop-n.n) c.number.ensures.bound c.number.ensures.is)) c.in-Ok.ensures.few
