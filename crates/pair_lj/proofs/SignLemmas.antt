-- Products and roundings by sign and magnitude.
use Rattle.std.proofs.Common.{◌≡◌, ◌*◌, ◌^◌, ◌≤◌, Bool, true, false, not, ℕ, ℤ, zero, suc, pos, negsuc, neg_ℤ, ◌+ℤ◌, ◌*ℤ◌, unsigned_abs, to_z, of_z, FitsSigned, arith, refl, sym, ap, ◌∙◌}
use Rattle.std.specs.Int.{is_negative, w128}
use Rattle.std.proofs.lemmas.Int.{ints, to_z-of_z, fits_signed_from_abs, unsigned_abs-mul}
use Rattle.std.proofs.Math.IntN.{neg_ℤ-neg_ℤ}
use Rattle.fx_num.specs.Rounding.{nearest_of, with_sign, div_rounded, shr_rounded}
use Rattle.fx_num.proofs.RoundingLemmas.{div_rounded-neg, neg_ℤ-*ℤ, unsigned_abs-div_rounded}
use Rattle.std.specs.Bool.{beq}

pub unsigned_abs-with_sign : (b : Bool) (n : ℕ) → unsigned_abs (with_sign b n) ≡ n
unsigned_abs-with_sign false n = refl
unsigned_abs-with_sign true n = omega (arith, ints)

pub div_rounded-with_sign : (b : Bool) (n d : ℕ) → div_rounded (with_sign b n) (pos d) ≡ with_sign b (nearest_of n d)
unfolding div_rounded
div_rounded-with_sign false n d = refl
div_rounded-with_sign true n d = div_rounded-neg (pos n) (pos d)

-- the product of a signed number and one that is not negative
pub with_sign-mul : (b : Bool) (n k : ℕ) → with_sign b n *ℤ pos k ≡ with_sign b (n * k)
with_sign-mul false n k = refl
with_sign-mul true n k = neg_ℤ-*ℤ (pos n) (pos k)

mul-with_sign : (b : Bool) (a g : ℕ) → pos a *ℤ with_sign b g ≡ with_sign b (a * g)
mul-with_sign false a g = refl
mul-with_sign true a zero = omega (arith, ints)
mul-with_sign true a (suc g) = refl

pub strength_is : (b : Bool) (e g k r : ℕ) → div_rounded (pos e *ℤ with_sign b g *ℤ pos k) (pos r) ≡ with_sign b (nearest_of (e * g * k) r)
strength_is b e g k r =
    ap (λ (z : ℤ). div_rounded (z *ℤ pos k) (pos r)) (mul-with_sign b e g)
    ∙ ap (λ (z : ℤ). div_rounded z (pos r)) (with_sign-mul b (e * g) k)
    ∙ div_rounded-with_sign b (e * g * k) r

pub energy_is : (b : Bool) (e g k : ℕ) → shr_rounded (pos e *ℤ with_sign b g) k ≡ with_sign b (nearest_of (e * g) (2 ^ k))
energy_is b e g k = ap (λ (z : ℤ). shr_rounded z k) (mul-with_sign b e g) ∙ div_rounded-with_sign b (e * g) (2 ^ k)

pub weighted_is : (b : Bool) (n q k : ℕ) → shr_rounded (with_sign b n *ℤ pos q) k ≡ with_sign b (nearest_of (n * q) (2 ^ k))
weighted_is b n q k = ap (λ (z : ℤ). shr_rounded z k) (with_sign-mul b n q) ∙ div_rounded-with_sign b (n * q) (2 ^ k)

-- the product of two signed numbers
along : (t : Bool) (s : ℕ) (x : ℤ) → t ≡ is_negative x → pos s *ℤ x ≡ with_sign t (s * unsigned_abs x)
along t s (pos m) e = let f : t ≡ false = e ∙ (grind (arith, ints)) in rw f refl
along t s (negsuc m) e = let f : t ≡ true = e ∙ (grind (arith, ints)) in rw f refl

turned : (t : Bool) (n : ℕ) → neg_ℤ (with_sign t n) ≡ with_sign (not t) n
turned false n = refl
turned true n = neg_ℤ-neg_ℤ (pos n)

signs_join : (b t : Bool) (s : ℕ) (x : ℤ) → t ≡ is_negative x → with_sign b s *ℤ x ≡ with_sign (not (beq b t)) (s * unsigned_abs x)
signs_join false false s x e = along false s x e
signs_join false true s x e = along true s x e
signs_join true false s x e = neg_ℤ-*ℤ (pos s) x ∙ ap neg_ℤ (along false s x e) ∙ turned false (s * unsigned_abs x)
signs_join true true s x e = neg_ℤ-*ℤ (pos s) x ∙ ap neg_ℤ (along true s x e) ∙ turned true (s * unsigned_abs x)

pub product_is : (b t : Bool) (s : ℕ) (x : ℤ) (d : ℕ) → t ≡ is_negative x → with_sign (not (beq b t)) (nearest_of (s * unsigned_abs x) d) ≡ div_rounded (with_sign b s *ℤ x) (pos d)
product_is b t s x d e =
    sym (ap (λ (z : ℤ). div_rounded z (pos d)) (signs_join b t s x e) ∙ div_rounded-with_sign (not (beq b t)) (s * unsigned_abs x) d)

pub unsigned_abs-product : (b : Bool) (s : ℕ) (x : ℤ) (d : ℕ) → unsigned_abs (div_rounded (with_sign b s *ℤ x) (pos d)) ≡ nearest_of (s * unsigned_abs x) d
unsigned_abs-product b s x d =
    unsigned_abs-div_rounded (with_sign b s *ℤ x) (pos d)
    ∙ ap (λ (n : ℕ). nearest_of n d) (unsigned_abs-mul (with_sign b s) x ∙ ap (λ (n : ℕ). n * unsigned_abs x) (unsigned_abs-with_sign b s))

-- a sum of three products as code computes it
pub sum_fits : (a b c : ℤ) → unsigned_abs a ≤ 2 ^ 70 → unsigned_abs b ≤ 2 ^ 70 → unsigned_abs c ≤ 2 ^ 70 → FitsSigned w128 (to_z w128 (of_z w128 (to_z w128 (of_z w128 a) +ℤ to_z w128 (of_z w128 b))) +ℤ to_z w128 (of_z w128 c))
sum_fits a b c la lb lc =
    let fa : FitsSigned w128 a = fits_signed_from_abs w128 a (omega arith) in
    let fb : FitsSigned w128 b = fits_signed_from_abs w128 b (omega arith) in
    let fc : FitsSigned w128 c = fits_signed_from_abs w128 c (omega arith) in
    let fab : FitsSigned w128 (a +ℤ b) = fits_signed_from_abs w128 (a +ℤ b) (omega (arith, ints)) in
    let all : FitsSigned w128 (a +ℤ b +ℤ c) = fits_signed_from_abs w128 (a +ℤ b +ℤ c) (omega (arith, ints)) in
    simp to_z-of_z all

pub sum_is : (a b c p q r : ℤ) → unsigned_abs a ≤ 2 ^ 70 → unsigned_abs b ≤ 2 ^ 70 → unsigned_abs c ≤ 2 ^ 70 → a ≡ p → b ≡ q → c ≡ r → to_z w128 (of_z w128 (to_z w128 (of_z w128 (to_z w128 (of_z w128 a) +ℤ to_z w128 (of_z w128 b))) +ℤ to_z w128 (of_z w128 c))) ≡ p +ℤ q +ℤ r
sum_is a b c p q r la lb lc ep eq er =
    let fa : FitsSigned w128 a = fits_signed_from_abs w128 a (omega arith) in
    let fb : FitsSigned w128 b = fits_signed_from_abs w128 b (omega arith) in
    let fc : FitsSigned w128 c = fits_signed_from_abs w128 c (omega arith) in
    let fab : FitsSigned w128 (a +ℤ b) = fits_signed_from_abs w128 (a +ℤ b) (omega (arith, ints)) in
    let all : FitsSigned w128 (a +ℤ b +ℤ c) = fits_signed_from_abs w128 (a +ℤ b +ℤ c) (omega (arith, ints)) in
    let same : a +ℤ b +ℤ c ≡ p +ℤ q +ℤ r = cc in
    simp to_z-of_z same

sum_le : (a b c : ℤ) → unsigned_abs a ≤ 2 ^ 70 → unsigned_abs b ≤ 2 ^ 70 → unsigned_abs c ≤ 2 ^ 70 → unsigned_abs (a +ℤ b +ℤ c) ≤ 3 * 2 ^ 70
sum_le a b c la lb lc = omega (arith, ints)

pub sum_small : (a b c : ℤ) → unsigned_abs a ≤ 2 ^ 70 → unsigned_abs b ≤ 2 ^ 70 → unsigned_abs c ≤ 2 ^ 70 → unsigned_abs (to_z w128 (of_z w128 (to_z w128 (of_z w128 (to_z w128 (of_z w128 a) +ℤ to_z w128 (of_z w128 b))) +ℤ to_z w128 (of_z w128 c)))) ≤ 3 * 2 ^ 70
sum_small a b c la lb lc = rw (sum_is a b c a b c la lb lc refl refl refl) (sum_le a b c la lb lc)
