use Rattle.std.proofs.Common.{◌≡◌, ◌*◌, ◌^◌, ◌≤◌, ℤ, pos, ◌*ℤ◌, unsigned_abs, to_z, of_z, arith, ap, ◌∙◌}
use Rattle.std.specs.Int.{w128}
use Rattle.bonded.proofs.SignLemmas.{bounded, doubled, fits, stiff, valued, wide, widened}
use Rattle.bonded.proofs.bond.pull_along.Goals as goal

pub product-requires-2 : goal.product-requires-2
product-requires-2 c =
    let k = c.args.k in
    let gap = c.args.gap in
    let k_low : unsigned_abs k ≤ 2 ^ 38 = stiff k c.requires.k in
    let twice : to_z w128 (of_z w128 (pos 2 *ℤ to_z w128 (of_z w128 c.from.result))) ≡ pos 2 *ℤ k = ap (λ (z : ℤ). to_z w128 (of_z w128 (pos 2 *ℤ z))) (widened c.from.result k c.from.ensures (omega arith)) ∙ wide (pos 2 *ℤ k) (omega (arith, doubled k k_low)) in
    let gap_is = widened c.from-2.result gap c.from-2.ensures (omega (arith, c.requires.gap)) in
    let x_is = widened c.from-3.result c.args.x c.from-3.ensures (omega (arith, c.requires.x)) in
    let p : c.product.result ≡ pos 2 *ℤ k *ℤ gap = valued c.product.result _ _ (pos 2 *ℤ k) gap c.product.ensures.is twice gap_is in
    let size : unsigned_abs c.product.result ≤ 2 ^ 39 * 2 ^ 28 = bounded c.product.result (pos 2 *ℤ k) gap (2 ^ 39) (2 ^ 28) p (doubled k k_low) c.requires.gap in
    fits _ _ c.product.result c.args.x (2 ^ 39 * 2 ^ 28) (2 ^ 28) (wide c.product.result (omega arith)) x_is size c.requires.x (omega arith)

pub returns-clause-is : goal.returns-clause-is
returns-clause-is c =
    let k = c.args.k in
    let gap = c.args.gap in
    let k_low : unsigned_abs k ≤ 2 ^ 38 = stiff k c.requires.k in
    let twice : to_z w128 (of_z w128 (pos 2 *ℤ to_z w128 (of_z w128 c.from.result))) ≡ pos 2 *ℤ k = ap (λ (z : ℤ). to_z w128 (of_z w128 (pos 2 *ℤ z))) (widened c.from.result k c.from.ensures (omega arith)) ∙ wide (pos 2 *ℤ k) (omega (arith, doubled k k_low)) in
    let gap_is = widened c.from-2.result gap c.from-2.ensures (omega (arith, c.requires.gap)) in
    let x_is = widened c.from-3.result c.args.x c.from-3.ensures (omega (arith, c.requires.x)) in
    let p : c.product.result ≡ pos 2 *ℤ k *ℤ gap = valued c.product.result _ _ (pos 2 *ℤ k) gap c.product.ensures.is twice gap_is in
    let size : unsigned_abs c.product.result ≤ 2 ^ 39 * 2 ^ 28 = bounded c.product.result (pos 2 *ℤ k) gap (2 ^ 39) (2 ^ 28) p (doubled k k_low) c.requires.gap in
    let q : c.product-2.result ≡ pos 2 *ℤ k *ℤ gap *ℤ c.args.x = valued c.product-2.result _ _ (pos 2 *ℤ k *ℤ gap) c.args.x c.product-2.ensures.is (wide c.product.result (omega arith) ∙ p) x_is in
    let all : unsigned_abs c.product-2.result ≤ 2 ^ 39 * 2 ^ 28 * 2 ^ 28 = bounded c.product-2.result c.product.result c.args.x (2 ^ 39 * 2 ^ 28) (2 ^ 28) (valued c.product-2.result _ _ c.product.result c.args.x c.product-2.ensures.is (wide c.product.result (omega arith)) x_is) size c.requires.x in
    wide c.product-2.result (omega arith) ∙ q

pub returns-clause-bound : goal.returns-clause-bound
returns-clause-bound c =
    let k = c.args.k in
    let gap = c.args.gap in
    let k_low : unsigned_abs k ≤ 2 ^ 38 = stiff k c.requires.k in
    let twice : to_z w128 (of_z w128 (pos 2 *ℤ to_z w128 (of_z w128 c.from.result))) ≡ pos 2 *ℤ k = ap (λ (z : ℤ). to_z w128 (of_z w128 (pos 2 *ℤ z))) (widened c.from.result k c.from.ensures (omega arith)) ∙ wide (pos 2 *ℤ k) (omega (arith, doubled k k_low)) in
    let gap_is = widened c.from-2.result gap c.from-2.ensures (omega (arith, c.requires.gap)) in
    let x_is = widened c.from-3.result c.args.x c.from-3.ensures (omega (arith, c.requires.x)) in
    let p : c.product.result ≡ pos 2 *ℤ k *ℤ gap = valued c.product.result _ _ (pos 2 *ℤ k) gap c.product.ensures.is twice gap_is in
    let size : unsigned_abs c.product.result ≤ 2 ^ 39 * 2 ^ 28 = bounded c.product.result (pos 2 *ℤ k) gap (2 ^ 39) (2 ^ 28) p (doubled k k_low) c.requires.gap in
    let all : unsigned_abs c.product-2.result ≤ 2 ^ 39 * 2 ^ 28 * 2 ^ 28 = bounded c.product-2.result c.product.result c.args.x (2 ^ 39 * 2 ^ 28) (2 ^ 28) (valued c.product-2.result _ _ c.product.result c.args.x c.product-2.ensures.is (wide c.product.result (omega arith)) x_is) size c.requires.x in
    rw (wide c.product-2.result (omega arith)) (omega arith)
