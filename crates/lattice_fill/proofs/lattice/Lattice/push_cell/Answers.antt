use Rattle.std.proofs.Common.{◌+◌, ◌<◌, ◌++◌, ◌∷◌, ℤ, Bool, List, [], length, filter, map, ◌∙◌, ap, subst}
use Rattle.box_geo.specs.declared.limits.TheConstants.{MAX_ATOMS}
use Rattle.lattice_fill.specs.declared.basis.Quarters.{Quarters}
use Rattle.lattice_fill.specs.declared.range.Cell.{Cell}
use Rattle.lattice_fill.specs.Points.{is_inside, point_of}
use Rattle.lattice_fill.proofs.PassLemmas.{kept_all, kept_more, kept_over, same_point}
use Rattle.lattice_fill.proofs.lattice.Lattice.push_cell.Goals as goal

pub returns-in-Err-clause-many : goal.returns-in-Err-clause-many
returns-in-Err-clause-many c = λ e.
    let cell : Cell = record { x = c.args.x.now; y = c.args.y.now; z = c.args.z.now } in
    let test : List ℤ → Bool = is_inside c.args.cell.now.sides in
    let at = same_point c.args.self.now.spacings _ c.point_of-point.result c.args.x.now c.args.y.now c.args.z.now c.requires.x c.requires.y c.requires.z c.point_of-point.ensures in
    subst (λ (qs : List Quarters). MAX_ATOMS < length c.args.points.now + length (filter test (map (point_of c.args.self.now.spacings cell) qs))) c.basis-quarters-items.ensures.is
    (kept_over test (point_of c.args.self.now.spacings cell) c.basis-quarters-items.result.now c.loop-quarters.quarters-index MAX_ATOMS _ c.args.points.now c.loop-quarters.points c.loop-quarters-test.true c.loop-quarters.invariant
    (subst (λ (p : List ℤ). MAX_ATOMS < length c.loop-quarters.points + length (filter test (p ∷ []))) at (c.in-Err.ensures.many e)))

pub loop-quarters-preserved : goal.loop-quarters-preserved
loop-quarters-preserved c =
    let cell : Cell = record { x = c.args.x.now; y = c.args.y.now; z = c.args.z.now } in
    let test : List ℤ → Bool = is_inside c.args.cell.now.sides in
    let at = same_point c.args.self.now.spacings _ c.point_of-point.result c.args.x.now c.args.y.now c.args.z.now c.requires.x c.requires.y c.requires.z c.point_of-point.ensures in
    kept_more test (point_of c.args.self.now.spacings cell) c.basis-quarters-items.result.now c.loop-quarters.quarters-index MAX_ATOMS _ c.args.points.now c.loop-quarters.points c.push_point.new.points c.loop-quarters-test.true c.loop-quarters.invariant
    (c.in-Ok.ensures.added ∙ ap (λ (p : List ℤ). c.loop-quarters.points ++ filter test (p ∷ [])) at) c.in-Ok.ensures.few

pub returns-clause-added : goal.returns-clause-added
returns-clause-added c =
    let cell : Cell = record { x = c.args.x.now; y = c.args.y.now; z = c.args.z.now } in
    kept_all (is_inside c.args.cell.now.sides) (point_of c.args.self.now.spacings cell) c.basis-quarters-items.result.now c.loop-quarters.quarters-index MAX_ATOMS c.args.points.now c.loop-quarters.points c.loop-quarters-test.false c.loop-quarters.invariant
    ∙ ap (λ (qs : List Quarters). c.args.points.now ++ filter (is_inside c.args.cell.now.sides) (map (point_of c.args.self.now.spacings cell) qs)) c.basis-quarters-items.ensures.is
