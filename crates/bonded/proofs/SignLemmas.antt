-- Signed numbers as code passes them on, and how large their products are.
use Rattle.std.proofs.Common.{◌≡◌, ◌*◌, ◌^◌, ◌<◌, ◌≤◌, ℕ, ℤ, pos, List, ◌+ℤ◌, ◌*ℤ◌, ◌≤ℤ◌, unsigned_abs, to_z, of_z, w64, FitsSigned, arith, ap, ◌∙◌}
use Rattle.std.specs.Int.{w128}
use Rattle.std.proofs.lemmas.Int.{ints, to_z-of_z, fits_signed_from_abs, unsigned_abs-mul}
use Rattle.std.proofs.lemmas.Nat.{mul-le}
use Rattle.fx_num.specs.Rounding.{shr_rounded}
use Rattle.box_geo.specs.Sides.{x_of, y_of, z_of, IsWithin}
use Rattle.box_geo.specs.Terms.{dot, IsModerate}
use Rattle.fx_num.proofs.RoundingLemmas.{nearest_of-le, unsigned_abs-div_rounded}

pub word : (x : ℤ) → unsigned_abs x < 2 ^ 63 → to_z w64 (of_z w64 x) ≡ x
word x small = to_z-of_z w64 x (fits_signed_from_abs w64 x small)

pub wide : (x : ℤ) → unsigned_abs x < 2 ^ 127 → to_z w128 (of_z w128 x) ≡ x
wide x small = to_z-of_z w128 x (fits_signed_from_abs w128 x small)

-- a word widened, of which a bound is known
pub widened : (f x : ℤ) → f ≡ to_z w64 (of_z w64 x) → unsigned_abs x < 2 ^ 63 → to_z w128 (of_z w128 f) ≡ x
widened f x e small =
    let is : f ≡ x = e ∙ word x small in
    let wide_is : unsigned_abs f < 2 ^ 127 = omega (arith, ap unsigned_abs is) in
    wide f wide_is ∙ is

-- products of what is passed on
pub valued : (p q r a b : ℤ) → p ≡ q *ℤ r → q ≡ a → r ≡ b → p ≡ a *ℤ b
valued p q r a b e f g = e ∙ ap (λ (z : ℤ). z *ℤ r) f ∙ ap (λ (z : ℤ). a *ℤ z) g

pub bounded : (p a b : ℤ) (m n : ℕ) → p ≡ a *ℤ b → unsigned_abs a ≤ m → unsigned_abs b ≤ n → unsigned_abs p ≤ m * n
bounded p a b m n e la lb =
    let size : unsigned_abs p ≡ unsigned_abs a * unsigned_abs b = ap unsigned_abs e ∙ unsigned_abs-mul a b in
    let most : unsigned_abs a * unsigned_abs b ≤ m * n = mul-le (unsigned_abs a) (unsigned_abs b) m n la lb in
    omega arith

pub fits : (a b x y : ℤ) (m n : ℕ) → a ≡ x → b ≡ y → unsigned_abs x ≤ m → unsigned_abs y ≤ n → m * n < 2 ^ 126 → unsigned_abs a * unsigned_abs b < 2 ^ 126
fits a b x y m n ea eb lx ly low =
    let la : unsigned_abs a ≤ m = omega (arith, ap unsigned_abs ea) in
    let lb : unsigned_abs b ≤ n = omega (arith, ap unsigned_abs eb) in
    let most : unsigned_abs a * unsigned_abs b ≤ m * n = mul-le (unsigned_abs a) (unsigned_abs b) m n la lb in
    omega arith

pub stiff : (k : ℤ) → (pos 0 ≤ℤ k) × (k ≤ℤ pos (2 ^ 38)) → unsigned_abs k ≤ 2 ^ 38
stiff k h =
    let low : pos 0 ≤ℤ k = h.0 in
    let high : k ≤ℤ pos (2 ^ 38) = h.1 in
    omega (arith, ints)

pub doubled : (k : ℤ) → unsigned_abs k ≤ 2 ^ 38 → unsigned_abs (pos 2 *ℤ k) ≤ 2 ^ 39
doubled k low = omega (arith, unsigned_abs-mul (pos 2) k)

-- a shift of what is passed on
pub shifted_small : (r p : ℤ) (k n : ℕ) → r ≡ shr_rounded p k → 0 < 2 ^ k → unsigned_abs p ≤ n * 2 ^ k → unsigned_abs r ≤ n
shifted_small r p k n e some low =
    let size : unsigned_abs r ≡ unsigned_abs (shr_rounded p k) = ap unsigned_abs e in
    let is = unsigned_abs-div_rounded p (pos (2 ^ k)) in
    let most = nearest_of-le (unsigned_abs p) (2 ^ k) n some low in
    omega (arith, is, most)

-- a sum of three products, as code computes it
sum_le : (a b c : ℤ) → unsigned_abs a ≤ 2 ^ 70 → unsigned_abs b ≤ 2 ^ 70 → unsigned_abs c ≤ 2 ^ 70 → unsigned_abs (a +ℤ b +ℤ c) ≤ 3 * 2 ^ 70
sum_le a b c la lb lc = omega (arith, ints)

two_le : (a b : ℤ) (n : ℕ) → unsigned_abs a ≤ n → unsigned_abs b ≤ n → unsigned_abs (a +ℤ b) ≤ 2 * n
two_le a b n la lb = omega (arith, ints)

pub two_is : (a b : ℤ) (n : ℕ) → unsigned_abs a ≤ n → unsigned_abs b ≤ n → n ≤ 3 * 2 ^ 70 → to_z w128 (of_z w128 a) +ℤ to_z w128 (of_z w128 b) ≡ a +ℤ b
two_is a b n la lb low =
    let ea : to_z w128 (of_z w128 a) ≡ a = wide a (omega arith) in
    let eb : to_z w128 (of_z w128 b) ≡ b = wide b (omega arith) in
    ap (λ (z : ℤ). z +ℤ to_z w128 (of_z w128 b)) ea ∙ ap (λ (z : ℤ). a +ℤ z) eb

pub two_fit : (a b : ℤ) (n : ℕ) → unsigned_abs a ≤ n → unsigned_abs b ≤ n → n ≤ 3 * 2 ^ 70 → FitsSigned w128 (to_z w128 (of_z w128 a) +ℤ to_z w128 (of_z w128 b))
two_fit a b n la lb low =
    let fit : FitsSigned w128 (a +ℤ b) = fits_signed_from_abs w128 (a +ℤ b) (omega (arith, two_le a b n la lb)) in
    rw (two_is a b n la lb low) fit

pub two_read : (a b : ℤ) (n : ℕ) → unsigned_abs a ≤ n → unsigned_abs b ≤ n → n ≤ 3 * 2 ^ 70 → to_z w128 (of_z w128 (to_z w128 (of_z w128 a) +ℤ to_z w128 (of_z w128 b))) ≡ a +ℤ b
two_read a b n la lb low = rw (two_is a b n la lb low) (wide (a +ℤ b) (omega (arith, two_le a b n la lb)))

pub two_small : (a b : ℤ) (n : ℕ) → unsigned_abs a ≤ n → unsigned_abs b ≤ n → n ≤ 3 * 2 ^ 70 → unsigned_abs (to_z w128 (of_z w128 (to_z w128 (of_z w128 a) +ℤ to_z w128 (of_z w128 b)))) ≤ 2 * n
two_small a b n la lb low = rw (two_read a b n la lb low) (two_le a b n la lb)

pub three_read : (a b c : ℤ) → unsigned_abs a ≤ 2 ^ 70 → unsigned_abs b ≤ 2 ^ 70 → unsigned_abs c ≤ 2 ^ 70 → to_z w128 (of_z w128 (to_z w128 (of_z w128 a) +ℤ to_z w128 (of_z w128 b))) +ℤ to_z w128 (of_z w128 c) ≡ a +ℤ b +ℤ c
three_read a b c la lb lc =
    let ec : to_z w128 (of_z w128 c) ≡ c = wide c (omega arith) in
    ap (λ (z : ℤ). z +ℤ to_z w128 (of_z w128 c)) (two_read a b (2 ^ 70) la lb (omega arith)) ∙ ap (λ (z : ℤ). a +ℤ b +ℤ z) ec

pub three_fit : (a b c : ℤ) → unsigned_abs a ≤ 2 ^ 70 → unsigned_abs b ≤ 2 ^ 70 → unsigned_abs c ≤ 2 ^ 70 → FitsSigned w128 (to_z w128 (of_z w128 (to_z w128 (of_z w128 a) +ℤ to_z w128 (of_z w128 b))) +ℤ to_z w128 (of_z w128 c))
three_fit a b c la lb lc =
    let fit : FitsSigned w128 (a +ℤ b +ℤ c) = fits_signed_from_abs w128 (a +ℤ b +ℤ c) (omega (arith, sum_le a b c la lb lc)) in
    rw (three_read a b c la lb lc) fit

pub three_small : (a b c : ℤ) → unsigned_abs a ≤ 2 ^ 70 → unsigned_abs b ≤ 2 ^ 70 → unsigned_abs c ≤ 2 ^ 70 → unsigned_abs (to_z w128 (of_z w128 (to_z w128 (of_z w128 (to_z w128 (of_z w128 a) +ℤ to_z w128 (of_z w128 b))) +ℤ to_z w128 (of_z w128 c)))) ≤ 3 * 2 ^ 70
three_small a b c la lb lc =
    let is = three_read a b c la lb lc in
    rw is (rw (wide (a +ℤ b +ℤ c) (omega (arith, sum_le a b c la lb lc))) (sum_le a b c la lb lc))

along_is : (p x f : ℤ) → unsigned_abs x ≤ 2 ^ 28 → unsigned_abs f ≤ 2 ^ 42 → p ≡ to_z w64 (of_z w64 x) *ℤ to_z w64 (of_z w64 f) → p ≡ x *ℤ f
along_is p x f lx lf e = valued p _ _ x f e (word x (omega arith)) (word f (omega arith))

pub dot_is : (d f : List ℤ) (p q r : ℤ) → IsWithin (2 ^ 28) d → IsModerate f
    → p ≡ to_z w64 (of_z w64 (x_of d)) *ℤ to_z w64 (of_z w64 (x_of f)) → q ≡ to_z w64 (of_z w64 (y_of d)) *ℤ to_z w64 (of_z w64 (y_of f)) → r ≡ to_z w64 (of_z w64 (z_of d)) *ℤ to_z w64 (of_z w64 (z_of f))
    → unsigned_abs p ≤ 2 ^ 70 → unsigned_abs q ≤ 2 ^ 70 → unsigned_abs r ≤ 2 ^ 70
    → to_z w128 (of_z w128 (to_z w128 (of_z w128 (to_z w128 (of_z w128 p) +ℤ to_z w128 (of_z w128 q))) +ℤ to_z w128 (of_z w128 r))) ≡ dot d f
dot_is d f p q r hd hf ep eq er lp lq lr =
    let x = along_is p (x_of d) (x_of f) hd.0 hf.0 ep in
    let y = along_is q (y_of d) (y_of f) hd.1 hf.1 eq in
    let z = along_is r (z_of d) (z_of f) hd.2 hf.2 er in
    ap (λ (v : ℤ). to_z w128 (of_z w128 v)) (three_read p q r lp lq lr)
    ∙ wide (p +ℤ q +ℤ r) (omega (arith, sum_le p q r lp lq lr))
    ∙ (let same : p +ℤ q +ℤ r ≡ dot d f = cc in same)
