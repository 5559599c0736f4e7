-- Lengths of three components, by their squares: that of a sum is at most the sum of the lengths.
use Rattle.std.proofs.Common.{◌≡◌, ◌+◌, ◌*◌, ◌<◌, ◌≤◌, ℕ, zero, suc, refl, ap, ◌∙◌, arith}
use Rattle.std.proofs.lemmas.Nat.{mul-le}

twice_product : (x y : ℕ) → 2 * (x * y) ≤ x * x + y * y
twice_product zero y = omega arith
twice_product (suc x) zero = omega arith
twice_product (suc x) (suc y) = omega (arith, twice_product x y)

scaled_product : (p q a b : ℕ) → 2 * (p * q * (a * b)) ≤ q * q * (a * a) + p * p * (b * b)
scaled_product p q a b = omega (arith, twice_product (q * a) (p * b))

cancel : (k m n : ℕ) → 0 < k → k * m ≤ k * n → m ≤ n
cancel k m n some h = grind arith

inner_scaled : (p q a b c d e f : ℕ) → a * a + b * b + c * c ≤ p * p → d * d + e * e + f * f ≤ q * q
    → p * q * (a * d + b * e + c * f) ≤ p * q * (p * q)
inner_scaled p q a b c d e f h g =
    omega (
      arith,
      scaled_product p q a d,
      scaled_product p q b e,
      scaled_product p q c f,
      mul-le (q * q) (a * a + b * b + c * c) (q * q) (p * p) (omega arith) h,
      mul-le (p * p) (d * d + e * e + f * f) (p * p) (q * q) (omega arith) g,
    )

inner_bound : (p q a b c d e f : ℕ) → 0 < p * q → a * a + b * b + c * c ≤ p * p → d * d + e * e + f * f ≤ q * q → a * d + b * e + c * f ≤ p * q
inner_bound p q a b c d e f some h g = cancel (p * q) (a * d + b * e + c * f) (p * q) some (inner_scaled p q a b c d e f h g)

no_square : (d n : ℕ) → d * d + n ≤ 0 → d ≡ 0
no_square zero n h = refl
no_square (suc d) n h = absurd (omega arith)

some_product : (p q : ℕ) → 0 < p → 0 < q → 0 < p * q
some_product p q a b = omega (arith, mul-le 1 1 p q a b)

unmoved : (a d : ℕ) → d ≡ 0 → (a + d) * (a + d) ≡ a * a
unmoved a d none = ap (λ (n : ℕ). (a + n) * (a + n)) none ∙ (let e : (a + 0) * (a + 0) ≡ a * a = omega arith in e)

pub sum_below : (p q a b c d e f : ℕ) → a * a + b * b + c * c < p * p → d * d + e * e + f * f ≤ q * q
    → (a + d) * (a + d) + (b + e) * (b + e) + (c + f) * (c + f) < (p + q) * (p + q)
sum_below zero q a b c d e f h g = absurd (omega arith)
sum_below (suc p) zero a b c d e f h g =
    omega (arith, unmoved a d (no_square d (e * e + f * f) (omega arith)), unmoved b e (no_square e (d * d + f * f) (omega arith)), unmoved c f (no_square f (d * d + e * e) (omega arith)))
sum_below (suc p) (suc q) a b c d e f h g =
    omega (arith, inner_bound (suc p) (suc q) a b c d e f (some_product (suc p) (suc q) (omega arith) (omega arith)) (omega arith) g)

-- two steps of at most half the skin each
pub within_skin : (cutoff skin a b c d e f g h i p q r : ℕ) → p ≤ a + d + g → q ≤ b + e + h → r ≤ c + f + i
    → a * a + b * b + c * c < cutoff * cutoff → 4 * (d * d + e * e + f * f) ≤ skin * skin → 4 * (g * g + h * h + i * i) ≤ skin * skin
    → p * p + q * q + r * r < (cutoff + skin) * (cutoff + skin)
within_skin cutoff skin a b c d e f g h i p q r x y z near one two =
    let first = sum_below (2 * cutoff) skin (2 * a) (2 * b) (2 * c) (2 * d) (2 * e) (2 * f) (omega (arith, near)) (omega (arith, one)) in
    let second = sum_below (2 * cutoff + skin) skin (2 * a + 2 * d) (2 * b + 2 * e) (2 * c + 2 * f) (2 * g) (2 * h) (2 * i) first (omega (arith, two)) in
    omega (arith, second, mul-le p p (a + d + g) (a + d + g) x x, mul-le q q (b + e + h) (b + e + h) y y, mul-le r r (c + f + i) (c + f + i) z z)
