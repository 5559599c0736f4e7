-- Energies as code computes them: products, shifted and cast.
use Rattle.std.proofs.Common.{◌≡◌, ◌*◌, ◌^◌, ◌<◌, ◌≤◌, ℕ, ℤ, pos, ◌+ℤ◌, ◌*ℤ◌, ◌≤ℤ◌, unsigned_abs, to_z, of_z, w64, FitsSigned, arith, ap, ◌∙◌}
use Rattle.std.specs.Int.{w128}
use Rattle.std.proofs.lemmas.Int.{ints, fits_signed_from_abs}
use Rattle.fx_num.specs.Rounding.{shr_rounded}
use Rattle.bonded.proofs.SignLemmas.{bounded, fits, shifted_small, stiff, valued, wide, widened, word}

-- the square of the gap
square_is : (s f g gap : ℤ) → unsigned_abs gap ≤ 2 ^ 28 → s ≡ to_z w128 (of_z w128 f) *ℤ to_z w128 (of_z w128 g) → f ≡ to_z w64 (of_z w64 gap) → g ≡ to_z w64 (of_z w64 gap) → (s ≡ gap *ℤ gap) × (unsigned_abs s ≤ 2 ^ 28 * 2 ^ 28)
square_is s f g gap low e ef eg =
    let is : s ≡ gap *ℤ gap = valued s _ _ gap gap e (widened f gap ef (omega arith)) (widened g gap eg (omega arith)) in
    (is, bounded s gap gap (2 ^ 28) (2 ^ 28) is low low)

pub square_wide : (h s f g k gap : ℤ) → (pos 0 ≤ℤ k) × (k ≤ℤ pos (2 ^ 38)) → unsigned_abs gap ≤ 2 ^ 28 → h ≡ to_z w64 (of_z w64 k) → s ≡ to_z w128 (of_z w128 f) *ℤ to_z w128 (of_z w128 g) → f ≡ to_z w64 (of_z w64 gap) → g ≡ to_z w64 (of_z w64 gap)
    → unsigned_abs (to_z w128 (of_z w128 h)) * unsigned_abs (to_z w128 (of_z w128 s)) < 2 ^ 126
square_wide h s f g k gap stiffness low eh es ef eg =
    let k_low : unsigned_abs k ≤ 2 ^ 38 = stiff k stiffness in
    let q = square_is s f g gap low es ef eg in
    let q_low : unsigned_abs s ≤ 2 ^ 28 * 2 ^ 28 = q.1 in
    fits _ _ k s (2 ^ 38) (2 ^ 28 * 2 ^ 28) (widened h k eh (omega arith)) (wide s (omega arith)) k_low q_low (omega arith)

-- the stiffness times it
pub stretched : (p h s f g k gap : ℤ) → (pos 0 ≤ℤ k) × (k ≤ℤ pos (2 ^ 38)) → unsigned_abs gap ≤ 2 ^ 28 → p ≡ to_z w128 (of_z w128 h) *ℤ to_z w128 (of_z w128 s) → h ≡ to_z w64 (of_z w64 k) → s ≡ to_z w128 (of_z w128 f) *ℤ to_z w128 (of_z w128 g)
    → f ≡ to_z w64 (of_z w64 gap) → g ≡ to_z w64 (of_z w64 gap) → (to_z w128 (of_z w128 p) ≡ p) × (p ≡ k *ℤ (gap *ℤ gap)) × (unsigned_abs p ≤ 2 ^ 46 * 2 ^ 48)
stretched p h s f g k gap stiffness low e eh es ef eg =
    let k_low : unsigned_abs k ≤ 2 ^ 38 = stiff k stiffness in
    let q = square_is s f g gap low es ef eg in
    let q_low : unsigned_abs s ≤ 2 ^ 28 * 2 ^ 28 = q.1 in
    let s_is : to_z w128 (of_z w128 s) ≡ s = wide s (omega arith) in
    let is : p ≡ k *ℤ (gap *ℤ gap) = valued p _ _ k (gap *ℤ gap) e (widened h k eh (omega arith)) (s_is ∙ q.0) in
    let size : unsigned_abs p ≤ 2 ^ 38 * (2 ^ 28 * 2 ^ 28) = bounded p k s (2 ^ 38) (2 ^ 28 * 2 ^ 28) (valued p _ _ k s e (widened h k eh (omega arith)) s_is) k_low q_low in
    (wide p (omega arith), is, omega arith)

-- the stiffness times one more than the cosine
pub raised : (p h g k c : ℤ) → (pos 0 ≤ℤ k) × (k ≤ℤ pos (2 ^ 38)) → unsigned_abs c ≤ 2 ^ 24 → p ≡ to_z w128 (of_z w128 h) *ℤ to_z w128 (of_z w128 g) → h ≡ to_z w64 (of_z w64 k) → g ≡ to_z w64 (of_z w64 (pos (2 ^ 24) +ℤ to_z w64 (of_z w64 c)))
    → (to_z w128 (of_z w128 p) ≡ p) × (p ≡ k *ℤ (pos (2 ^ 24) +ℤ c)) × (unsigned_abs p ≤ 2 ^ 39 * 2 ^ 24)
raised p h g k c stiffness low e eh eg =
    let k_low : unsigned_abs k ≤ 2 ^ 38 = stiff k stiffness in
    let sum_low : unsigned_abs (pos (2 ^ 24) +ℤ c) ≤ 2 ^ 25 = omega (arith, ints) in
    let g_is : g ≡ to_z w64 (of_z w64 (pos (2 ^ 24) +ℤ c)) = eg ∙ ap (λ (z : ℤ). to_z w64 (of_z w64 (pos (2 ^ 24) +ℤ z))) (word c (omega arith)) in
    let is : p ≡ k *ℤ (pos (2 ^ 24) +ℤ c) = valued p _ _ k (pos (2 ^ 24) +ℤ c) e (widened h k eh (omega arith)) (widened g (pos (2 ^ 24) +ℤ c) g_is (omega arith)) in
    let size : unsigned_abs p ≤ 2 ^ 38 * 2 ^ 25 = bounded p k (pos (2 ^ 24) +ℤ c) (2 ^ 38) (2 ^ 25) is k_low sum_low in
    (wide p (omega arith), is, omega arith)

-- shifted and cast
pub energy_bound : (r p : ℤ) (k n : ℕ) → r ≡ shr_rounded (to_z w128 (of_z w128 p)) k → to_z w128 (of_z w128 p) ≡ p → unsigned_abs p ≤ n * 2 ^ k → 0 < 2 ^ k → unsigned_abs r ≤ n
energy_bound r p k n e held low some = shifted_small r p k n (e ∙ ap (λ (z : ℤ). shr_rounded z k) held) some low

pub energy_fits : (r p : ℤ) (k n : ℕ) → r ≡ shr_rounded (to_z w128 (of_z w128 p)) k → to_z w128 (of_z w128 p) ≡ p → unsigned_abs p ≤ n * 2 ^ k → 0 < 2 ^ k → n < 2 ^ 63 → FitsSigned w64 (to_z w128 (of_z w128 r))
energy_fits r p k n e held low some small =
    let size : unsigned_abs r ≤ n = energy_bound r p k n e held low some in
    rw (wide r (omega arith)) (fits_signed_from_abs w64 r (omega arith))

pub energy_read : (r p : ℤ) (k n : ℕ) → r ≡ shr_rounded (to_z w128 (of_z w128 p)) k → to_z w128 (of_z w128 p) ≡ p → unsigned_abs p ≤ n * 2 ^ k → 0 < 2 ^ k → n < 2 ^ 63 → to_z w64 (of_z w64 (to_z w128 (of_z w128 r))) ≡ r
energy_read r p k n e held low some small =
    let size : unsigned_abs r ≤ n = energy_bound r p k n e held low some in
    rw (wide r (omega arith)) (word r (omega arith))

pub energy_is : (r p v : ℤ) (k n : ℕ) → r ≡ shr_rounded (to_z w128 (of_z w128 p)) k → to_z w128 (of_z w128 p) ≡ p → p ≡ v → unsigned_abs p ≤ n * 2 ^ k → 0 < 2 ^ k → n < 2 ^ 63 → to_z w64 (of_z w64 (to_z w128 (of_z w128 r))) ≡ shr_rounded v k
energy_is r p v k n e held is low some small =
    energy_read r p k n e held low some small ∙ e ∙ ap (λ (z : ℤ). shr_rounded z k) (held ∙ is)

pub energy_small : (r p : ℤ) (k n : ℕ) → r ≡ shr_rounded (to_z w128 (of_z w128 p)) k → to_z w128 (of_z w128 p) ≡ p → unsigned_abs p ≤ n * 2 ^ k → 0 < 2 ^ k → n < 2 ^ 63 → unsigned_abs (to_z w64 (of_z w64 (to_z w128 (of_z w128 r)))) ≤ n
energy_small r p k n e held low some small =
    rw (energy_read r p k n e held low some small) (energy_bound r p k n e held low some)
