use Rattle.std.proofs.Common.{◌≡◌, ◌*◌, ◌≤◌, ℤ, pos, unsigned_abs, List, [], ◌∷◌, sym, subst, refl, ℕ}
use Rattle.box_geo.specs.Sides.{length2}
use Rattle.pair_lj.proofs.Cases.{far, read_abs, read_r2}
use Rattle.pair_lj.proofs.evaluate.evaluate_at.Goals as goal

pub returns-in_default-clause-is : goal.returns-in_default-clause-is
returns-in_default-clause-is c =
    let a_is : c.unsigned_abs.result ≡ unsigned_abs c.args.x = read_abs c.unsigned_abs.result c.args.x c.ranges.x c.unsigned_abs.ensures.value in
    let b_is : c.unsigned_abs-2.result ≡ unsigned_abs c.args.y = read_abs c.unsigned_abs-2.result c.args.y c.ranges.y c.unsigned_abs-2.ensures.value in
    let c_is : c.unsigned_abs-3.result ≡ unsigned_abs c.args.z = read_abs c.unsigned_abs-3.result c.args.z c.ranges.z c.unsigned_abs-3.ensures.value in
    let d : List ℤ = c.args.x ∷ c.args.y ∷ c.args.z ∷ [] in
    let r2_is : _ ≡ length2 d = read_r2 _ c.unsigned_abs.result c.unsigned_abs-2.result c.unsigned_abs-3.result c.args.x c.args.y c.args.z refl a_is b_is c_is in
    sym (far c.args.k.epsilon c.args.k.sigma c.args.k.cutoff (pos 0) c.args.weight d (subst (λ (n : ℕ). c.args.k.cutoff * c.args.k.cutoff ≤ n) r2_is c.in_default.ensures.far))
