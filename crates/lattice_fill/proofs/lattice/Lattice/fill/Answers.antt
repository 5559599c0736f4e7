use Rattle.std.proofs.Common.{◌≡◌, ◌+◌, ◌+ℤ◌, pos, ◌<◌, ◌++◌, ℤ, List, [], All, Err, IsErrOf, length, ◌∙◌, ap, sym, subst}
use Rattle.box_geo.specs.Sides.{IsInside}
use Rattle.box_geo.specs.declared.limits.TheConstants.{MAX_ATOMS}
use Rattle.lattice_fill.specs.Points.{inside_of_layer, from}
use Rattle.lattice_fill.proofs.PassLemmas.{passed_end, passed_more, passed_over, same_number}
use Rattle.lattice_fill.proofs.PointLemmas.{each_inside, points_from, points_made}
use Rattle.lattice_fill.specs.declared.fill.FillRefusal.{FillRefusal}
use Rattle.lattice_fill.specs.declared.fill.FillRefusal.TheVariants.{TooMany}
use Rattle.lattice_fill.proofs.lattice.Lattice.fill.Goals as goal

same_error : {T : Type 0} (why other : FillRefusal) → IsErrOf {T = T} {E = FillRefusal} (Err why) other → why ≡ other
same_error why other e = cc

pub returns-in-Err-clause-many : goal.returns-in-Err-clause-many
returns-in-Err-clause-many c = λ e.
    let f : ℤ → List (List ℤ) = inside_of_layer c.args.self.now.style c.args.self.now.spacings c.args.cell.now.sides in
    points_from c.args.self.now.style c.args.self.now.spacings c.args.cell.now.sides (from c.layers-layers.result.first c.layers-layers.result.count) c.layers-layers.ensures MAX_ATOMS
    (passed_over f c.layers-layers.result.first c.layers-layers.result.count c.loop-n.n MAX_ATOMS [] c.loop-n.points c.loop-n-test.true c.loop-n.invariant
    (subst (λ (i : ℤ). MAX_ATOMS < length c.loop-n.points + length (f i)) (same_number c.number.result (c.layers-layers.result.first +ℤ pos c.loop-n.n) c.number.ensures.bound c.number.ensures.is) (c.in-Err.ensures.many (ap Err (same_error c.in-Err.why TooMany e)))))

pub loop-n-preserved : goal.loop-n-preserved
loop-n-preserved c =
    let f : ℤ → List (List ℤ) = inside_of_layer c.args.self.now.style c.args.self.now.spacings c.args.cell.now.sides in
    passed_more f c.layers-layers.result.first c.layers-layers.result.count c.loop-n.n MAX_ATOMS [] c.loop-n.points c.push_layer.new.points c.loop-n-test.true c.loop-n.invariant
    (c.in-Ok.ensures.added ∙ ap (λ (i : ℤ). c.loop-n.points ++ f i) (same_number c.number.result (c.layers-layers.result.first +ℤ pos c.loop-n.n) c.number.ensures.bound c.number.ensures.is)) c.in-Ok.ensures.few

pub returns-clause-points : goal.returns-clause-points
returns-clause-points c =
    points_made c.args.self.now.style c.args.self.now.spacings c.args.cell.now.sides (from c.layers-layers.result.first c.layers-layers.result.count) c.layers-layers.ensures c.loop-n.points
    (passed_end (inside_of_layer c.args.self.now.style c.args.self.now.spacings c.args.cell.now.sides) c.layers-layers.result.first c.layers-layers.result.count c.loop-n.n MAX_ATOMS c.loop-n.points c.loop-n-test.false c.loop-n.auto.n-end c.loop-n.invariant)

pub returns-clause-inside : goal.returns-clause-inside
returns-clause-inside c =
    subst (λ (l : List (List ℤ)). All (IsInside c.args.cell.now.sides) l) (sym (returns-clause-points c)) (each_inside c.args.self.now.style c.args.self.now.spacings c.args.cell.now.sides)
