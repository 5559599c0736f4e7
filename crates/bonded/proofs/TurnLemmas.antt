-- What an angle turns its atoms by along an axis, as code computes it.
use Rattle.std.proofs.Common.{◌≡◌, ◌*◌, ◌^◌, ◌<◌, ◌≤◌, ℕ, ℤ, pos, ◌-ℤ◌, ◌*ℤ◌, ◌≤ℤ◌, unsigned_abs, to_z, of_z, w64, arith, ap, ◌∙◌}
use Rattle.std.specs.Int.{w128}
use Rattle.std.proofs.lemmas.Int.{to_z_pos}
use Rattle.bonded.specs.Angles.{turn_along}
use Rattle.bonded.proofs.SignLemmas.{bounded, fits, stiff, valued, wide, widened, word}

-- a product with a number v, which is passed on with n, is of value w and size at most m
pub record Goes (p q v : ℤ) (m : ℕ) : Type 0 where
  pub fits : unsigned_abs p * unsigned_abs q < 2 ^ 126
  pub is : (r : ℤ) → r ≡ p *ℤ q → to_z w128 (of_z w128 r) ≡ v
  pub small : (r : ℤ) → r ≡ p *ℤ q → unsigned_abs (to_z w128 (of_z w128 r)) ≤ m

pub goes : (p q x y v : ℤ) (m n k : ℕ) → p ≡ x → q ≡ y → x *ℤ y ≡ v → unsigned_abs x ≤ m → unsigned_abs y ≤ n → m * n ≤ k → k < 2 ^ 126 → Goes p q v k
goes p q x y v m n k ep eq ev lx ly most few = record {
  fits = fits p q x y m n ep eq lx ly (omega arith);
  is = λ r e. wide r (omega (arith, bounded r x y m n (valued r p q x y e ep eq) lx ly)) ∙ valued r p q x y e ep eq ∙ ev;
  small = λ r e. rw (wide r (omega (arith, bounded r x y m n (valued r p q x y e ep eq) lx ly))) (omega (arith, bounded r x y m n (valued r p q x y e ep eq) lx ly));
}

pub part_is : (p f g c x : ℤ) (s : ℕ) → unsigned_abs c ≤ 2 ^ 24 → unsigned_abs x ≤ 2 ^ 28 → s ≤ 2 ^ 28 → f ≡ to_z w64 (of_z w64 c) → g ≡ to_z w64 (of_z w64 x) → p ≡ to_z w128 (of_z w128 f) *ℤ to_z w128 (of_z w128 g)
    → Goes (to_z w128 (of_z w128 p)) (to_z w128 s) (c *ℤ x *ℤ pos s) (2 ^ 80)
part_is p f g c x s lc lx ls ef eg e =
    let is : p ≡ c *ℤ x = valued p _ _ c x e (widened f c ef (omega arith)) (widened g x eg (omega arith)) in
    let size : unsigned_abs p ≤ 2 ^ 24 * 2 ^ 28 = bounded p c x (2 ^ 24) (2 ^ 28) is lc lx in
    goes _ _ p (pos s) (c *ℤ x *ℤ pos s) (2 ^ 24 * 2 ^ 28) (2 ^ 28) (2 ^ 80) (wide p (omega arith)) (to_z_pos w128 s (omega arith)) (ap (λ (z : ℤ). z *ℤ pos s) is) size ls (omega arith) (omega arith)

pub part_read : (p c x : ℤ) (s : ℕ) → unsigned_abs c ≤ 2 ^ 24 → unsigned_abs x ≤ 2 ^ 28 → p ≡ to_z w64 (of_z w64 c) *ℤ to_z w64 (of_z w64 x) *ℤ pos s → p ≡ c *ℤ x *ℤ pos s
part_read p c x s lc lx e =
    e ∙ ap (λ (z : ℤ). z *ℤ to_z w64 (of_z w64 x) *ℤ pos s) (word c (omega arith)) ∙ ap (λ (z : ℤ). c *ℤ z *ℤ pos s) (word x (omega arith))

pub turn_is : (f a p q k c : ℤ) (r s : ℕ) (x y : ℤ) → (pos 0 ≤ℤ k) × (k ≤ℤ pos (2 ^ 38)) → f ≡ to_z w64 (of_z w64 k) → a ≡ to_z w128 (of_z w128 p) -ℤ to_z w128 (of_z w128 q)
    → unsigned_abs a ≤ 2 ^ 81 → unsigned_abs p ≤ 2 ^ 80 → unsigned_abs q ≤ 2 ^ 80 → p ≡ c *ℤ x *ℤ pos s → q ≡ pos (2 ^ 24) *ℤ y *ℤ pos r
    → Goes (to_z w128 (of_z w128 f)) (to_z w128 (of_z w128 a)) (turn_along k c r s x y) (2 ^ 119)
turn_is f a p q k c r s x y stiffness ef e la lp lq ep eq =
    let lk : unsigned_abs k ≤ 2 ^ 38 = stiff k stiffness in
    let is : a ≡ c *ℤ x *ℤ pos s -ℤ pos (2 ^ 24) *ℤ y *ℤ pos r =
    e ∙ ap (λ (z : ℤ). z -ℤ to_z w128 (of_z w128 q)) (wide p (omega arith) ∙ ep) ∙ ap (λ (z : ℤ). c *ℤ x *ℤ pos s -ℤ z) (wide q (omega arith) ∙ eq) in
    goes _ _ k a (turn_along k c r s x y) (2 ^ 38) (2 ^ 81) (2 ^ 119) (widened f k ef (omega arith)) (wide a (omega arith)) (ap (λ (z : ℤ). k *ℤ z) is) lk la (omega arith) (omega arith)
