-- The outcomes of the pair term, one lemma for each.
use Rattle.std.proofs.Common.{◌≡◌, ◌+◌, ◌*◌, ◌^◌, ◌<◌, ◌≤◌, ◌||◌, Bool, true, false, nat_lt, nat_le, ℕ, ℤ, zero, suc, pos, ◌-ℤ◌, ◌*ℤ◌, unsigned_abs, to_z, of_z, w64, FitsSigned, Some, None, Ok, Err, List, [], ◌∷◌, ◌⊎◌, inl, inr, refl, sym, ap, ◌∙◌, arith}
use Rattle.std.proofs.lemmas.Int.{ints, to_z-of_z}
use Rattle.std.proofs.lemmas.Bool.Decides.{nat_tests}
use Rattle.std.proofs.lemmas.Nat.{mul-le}
use Rattle.fx_num.specs.Rounding.{nearest_of, with_sign, div_rounded, shr_rounded, RoundsTo}
use Rattle.fx_num.proofs.RoundingLemmas.{nearest_rounds}
use Rattle.box_geo.specs.declared.term.Term.{Term}
use Rattle.box_geo.specs.Sides.{length2}
use Rattle.box_geo.specs.Terms.{dot, is_too_strong}
use Rattle.pair_lj.specs.PairTerm.{inverse_square, sixth_power, twelfth_power, strength, energy_at, force_along, is_too_near, weighted_term, pair_term}
use Rattle.pair_lj.proofs.SignLemmas.{unsigned_abs-product, weighted_is}

pub far : (eps sigma cut : ℕ) (base : ℤ) (weight : ℕ) (d : List ℤ) → cut * cut ≤ length2 d → pair_term eps sigma cut base weight d ≡ Ok None
unfolding pair_term
far eps sigma cut base weight d outside =
    let e : nat_le (cut * cut) (length2 d) ≡ true = grind (arith, nat_tests) in
    rw e refl

near_true : (sigma r2 : ℕ) → r2 ≡ 0 → is_too_near sigma r2 ≡ true
near_true sigma r2 e = rw e refl

ratio_true : (sigma r2 : ℕ) → 0 < r2 → 2 ^ 36 < inverse_square sigma r2 → is_too_near sigma r2 ≡ true
ratio_true sigma r2 apart near = grind (arith, nat_tests)

pub near_false : (sigma r2 : ℕ) → 0 < r2 → inverse_square sigma r2 ≤ 2 ^ 36 → is_too_near sigma r2 ≡ false
near_false sigma r2 apart wide = grind (arith, nat_tests)

too_near : (eps sigma cut : ℕ) (base : ℤ) (weight : ℕ) (d : List ℤ) → length2 d < cut * cut → is_too_near sigma (length2 d) ≡ true → pair_term eps sigma cut base weight d ≡ Err record {}
unfolding pair_term
too_near eps sigma cut base weight d inside near =
    let e : nat_le (cut * cut) (length2 d) ≡ false = grind (arith, nat_tests) in
    rw (e, near) refl

pub touching : (eps sigma cut : ℕ) (base : ℤ) (weight : ℕ) (d : List ℤ) → length2 d < cut * cut → length2 d ≡ 0 → pair_term eps sigma cut base weight d ≡ Err record {}
touching eps sigma cut base weight d inside zero_is = too_near eps sigma cut base weight d inside (near_true sigma (length2 d) zero_is)

pub near : (eps sigma cut : ℕ) (base : ℤ) (weight : ℕ) (d : List ℤ) → length2 d < cut * cut → 0 < length2 d → 2 ^ 36 < inverse_square sigma (length2 d) → pair_term eps sigma cut base weight d ≡ Err record {}
near eps sigma cut base weight d inside apart ratio = too_near eps sigma cut base weight d inside (ratio_true sigma (length2 d) apart ratio)

pub too_strong : (eps sigma cut : ℕ) (base : ℤ) (weight : ℕ) (d : List ℤ) → length2 d < cut * cut → is_too_near sigma (length2 d) ≡ false → is_too_strong (force_along (strength eps sigma (length2 d)) d) ≡ true → pair_term eps sigma cut base weight d ≡ Err record {}
unfolding pair_term
too_strong eps sigma cut base weight d inside wide strong =
    let e : nat_le (cut * cut) (length2 d) ≡ false = grind (arith, nat_tests) in
    rw (e, wide, strong) refl

pub moderate : (eps sigma cut : ℕ) (base : ℤ) (weight : ℕ) (d : List ℤ) → length2 d < cut * cut → is_too_near sigma (length2 d) ≡ false → is_too_strong (force_along (strength eps sigma (length2 d)) d) ≡ false → pair_term eps sigma cut base weight d ≡ Ok (Some (weighted_term (strength eps sigma (length2 d)) (energy_at eps sigma (length2 d) -ℤ base) weight d))
unfolding pair_term
moderate eps sigma cut base weight d inside wide mild =
    let e : nat_le (cut * cut) (length2 d) ≡ false = grind (arith, nat_tests) in
    rw (e, wide, mild) refl

-- what code reads, in the words of the definitions
pub read_abs : (m : ℕ) (x : ℤ) → FitsSigned w64 x → m ≡ unsigned_abs (to_z w64 (of_z w64 x)) → m ≡ unsigned_abs x
read_abs m x fits e = e ∙ ap unsigned_abs (to_z-of_z w64 x fits)

pub read_r2 : (r2 a b c : ℕ) (x y z : ℤ) → r2 ≡ a * a + b * b + c * c → a ≡ unsigned_abs x → b ≡ unsigned_abs y → c ≡ unsigned_abs z → r2 ≡ length2 (x ∷ y ∷ z ∷ [])
read_r2 r2 a b c x y z r ea eb ec =
    r ∙ ap (λ (n : ℕ). n * n + b * b + c * c) ea
    ∙ ap (λ (n : ℕ). unsigned_abs x * unsigned_abs x + n * n + c * c) eb
    ∙ ap (λ (n : ℕ). unsigned_abs x * unsigned_abs x + unsigned_abs y * unsigned_abs y + n * n) ec

pub outside : (s r2 k l : ℕ) → s ≡ k * k → r2 ≡ l → s ≤ r2 → k * k ≤ l
outside s r2 k l es er h = omega arith

pub inside : (s r2 k l : ℕ) → s ≡ k * k → r2 ≡ l → r2 < s → l < k * k
inside s r2 k l es er h = omega arith

pub apart : (r2 l : ℕ) → r2 ≡ l → (r2 ≡ 0 → ⊥) → 0 < l
apart r2 l e differ = omega arith

pub read_ratio : (w sigma r2 l : ℕ) → w ≡ nearest_of (sigma * sigma * 2 ^ 32) r2 → r2 ≡ l → w ≡ inverse_square sigma l
unfolding inverse_square
read_ratio w sigma r2 l e r = e ∙ ap (λ (n : ℕ). nearest_of (sigma * sigma * 2 ^ 32) n) r

pub read_sixth : (s w sigma l : ℕ) → s ≡ nearest_of (w * w * w) (2 ^ 64) → w ≡ inverse_square sigma l → s ≡ sixth_power sigma l
unfolding sixth_power
read_sixth s w sigma l e h = e ∙ ap (λ (n : ℕ). nearest_of (n * n * n) (2 ^ 64)) h

pub read_twelfth : (t s sigma l : ℕ) → t ≡ nearest_of (s * s) (2 ^ 32) → s ≡ sixth_power sigma l → t ≡ twelfth_power sigma l
unfolding twelfth_power
read_twelfth t s sigma l e h = e ∙ ap (λ (n : ℕ). nearest_of (n * n) (2 ^ 32)) h

pub read_strength : (v : ℤ) (eps sigma s t r2 l : ℕ) → v ≡ div_rounded (pos (24 * eps) *ℤ (pos (2 * t) -ℤ pos s) *ℤ pos (2 ^ 24)) (pos r2) → s ≡ sixth_power sigma l → t ≡ twelfth_power sigma l → r2 ≡ l → v ≡ strength eps sigma l
unfolding strength
read_strength v eps sigma s t r2 l e es et er =
    e ∙ ap (λ (n : ℕ). div_rounded (pos (24 * eps) *ℤ (pos (2 * n) -ℤ pos s) *ℤ pos (2 ^ 24)) (pos r2)) et
    ∙ ap (λ (n : ℕ). div_rounded (pos (24 * eps) *ℤ (pos (2 * twelfth_power sigma l) -ℤ pos n) *ℤ pos (2 ^ 24)) (pos r2)) es
    ∙ ap (λ (n : ℕ). div_rounded (pos (24 * eps) *ℤ (pos (2 * twelfth_power sigma l) -ℤ pos (sixth_power sigma l)) *ℤ pos (2 ^ 24)) (pos n)) er

pub read_energy : (v : ℤ) (eps sigma s t l weight : ℕ) → v ≡ shr_rounded (shr_rounded (pos (4 * eps) *ℤ (pos t -ℤ pos s)) 32 *ℤ pos weight) 24 → s ≡ sixth_power sigma l → t ≡ twelfth_power sigma l → v ≡ shr_rounded (energy_at eps sigma l *ℤ pos weight) 24
unfolding energy_at
read_energy v eps sigma s t l weight e es et =
    e ∙ ap (λ (n : ℕ). shr_rounded (shr_rounded (pos (4 * eps) *ℤ (pos n -ℤ pos s)) 32 *ℤ pos weight) 24) et
    ∙ ap (λ (n : ℕ). shr_rounded (shr_rounded (pos (4 * eps) *ℤ (pos (twelfth_power sigma l) -ℤ pos n)) 32 *ℤ pos weight) 24) es

-- a strength times a component fits
part_fits : (s a r2 : ℕ) → a * a ≤ r2 → s * r2 ≤ 2 ^ 120 → s * a < 2 ^ 126
part_fits s zero r2 low bound = omega arith
part_fits s (suc a) r2 low bound =
    let one : suc a ≤ suc a * suc a = omega arith in
    let whole : s * suc a ≤ s * r2 = mul-le s (suc a) s r2 (omega arith) (omega arith) in
    omega arith

-- each of three parts of a sum of squares
pub fits_each : (s a b c r2 : ℕ) → r2 ≡ a * a + b * b + c * c → s * r2 ≤ 2 ^ 120 → (s * a < 2 ^ 126) × (s * b < 2 ^ 126) × (s * c < 2 ^ 126)
fits_each s a b c r2 e bound =
    (part_fits s a r2 (omega arith) bound, part_fits s b r2 (omega arith) bound, part_fits s c r2 (omega arith) bound)

-- and is below 2^28 within the cutoff
short_part : (a r2 k : ℕ) → a * a ≤ r2 → r2 < k * k → k ≤ 2 ^ 28 → a < 2 ^ 28
short_part a r2 k low inside short =
    let most : k * k ≤ 2 ^ 28 * 2 ^ 28 = mul-le k k (2 ^ 28) (2 ^ 28) short short in
    below_root a (2 ^ 28) (omega arith)
  where
    below_root : (m n : ℕ) → m * m < n * n → m < n
    below_root m n h = grind arith

pub short_parts : (a b c r2 s k : ℕ) → r2 ≡ a * a + b * b + c * c → s ≡ k * k → r2 < s → k ≤ 2 ^ 28 → (a < 2 ^ 28) × (b < 2 ^ 28) × (c < 2 ^ 28)
short_parts a b c r2 s k e f inside short = (short_part a r2 k (omega arith) (omega arith) short, short_part b r2 k (omega arith) (omega arith) short, short_part c r2 k (omega arith) (omega arith) short)

below : (s a : ℕ) → nearest_of (s * suc a) (2 ^ 32) ≤ 2 ^ 42 → s ≤ 2 ^ 100
below s a low =
    let r : RoundsTo (s * suc a) (2 ^ 32) (nearest_of (s * suc a) (2 ^ 32)) = nearest_rounds (s * suc a) (2 ^ 32) (omega arith) in
    let high : 2 * (s * suc a) < 2 * (nearest_of (s * suc a) (2 ^ 32) * 2 ^ 32) + 2 ^ 32 = r.at_least in
    let one : s ≤ s * suc a = omega arith in
    omega arith

-- a strength of a moderate force at a displacement that is not 0
pub small_strength : (s a b c r2 : ℕ) → r2 ≡ a * a + b * b + c * c → (r2 ≡ 0 → ⊥) → (nearest_of (s * a) (2 ^ 32) ≤ 2 ^ 42) × (nearest_of (s * b) (2 ^ 32) ≤ 2 ^ 42) × (nearest_of (s * c) (2 ^ 32) ≤ 2 ^ 42) → s ≤ 2 ^ 100
small_strength s (suc a) b c r2 e differ mild = below s a mild.0
small_strength s zero (suc b) c r2 e differ mild = below s b mild.1
small_strength s zero zero (suc c) r2 e differ mild = below s c mild.2
small_strength s zero zero zero r2 e differ mild = absurd (differ (omega arith))

-- a lesser strength
pub weighted_fits : (t s a v : ℕ) → t ≤ s → a ≡ v → s * a < 2 ^ 126 → t * v < 2 ^ 126
weighted_fits t s a v low e fits =
    let h : t * v ≤ s * v = mul-le t v s v low (omega arith) in
    let k : s * a ≡ s * v = ap (λ (n : ℕ). s * n) e in
    omega arith

pub nearest_of-mono : (m n : ℕ) → m ≤ n → nearest_of m (2 ^ 32) ≤ nearest_of n (2 ^ 32)
nearest_of-mono m n low =
    let f : RoundsTo m (2 ^ 32) (nearest_of m (2 ^ 32)) = nearest_rounds m (2 ^ 32) (omega arith) in
    let g : RoundsTo n (2 ^ 32) (nearest_of n (2 ^ 32)) = nearest_rounds n (2 ^ 32) (omega arith) in
    let high : 2 * (nearest_of m (2 ^ 32) * 2 ^ 32) ≤ 2 * m + 2 ^ 32 = f.at_most in
    let less : 2 * n < 2 * (nearest_of n (2 ^ 32) * 2 ^ 32) + 2 ^ 32 = g.at_least in
    omega arith

pub weighted_moderate : (t s a v : ℕ) → t ≤ s → a ≡ v → nearest_of (s * a) (2 ^ 32) ≤ 2 ^ 42 → nearest_of (t * v) (2 ^ 32) ≤ 2 ^ 42
weighted_moderate t s a v low e mild =
    let h : t * v ≤ s * v = mul-le t v s v low (omega arith) in
    let k : s * a ≡ s * v = ap (λ (n : ℕ). s * n) e in
    let m : nearest_of (t * v) (2 ^ 32) ≤ nearest_of (s * a) (2 ^ 32) = nearest_of-mono (t * v) (s * a) (omega arith) in
    omega arith

-- the test of the force, on magnitudes
component_size : (b : Bool) (s a : ℕ) (v x : ℤ) → with_sign b s ≡ v → a ≡ unsigned_abs x → unsigned_abs (shr_rounded (v *ℤ x) 32) ≡ nearest_of (s * a) (2 ^ 32)
component_size b s a v x ev ea =
    ap (λ (z : ℤ). unsigned_abs (shr_rounded (z *ℤ x) 32)) (sym ev)
    ∙ unsigned_abs-product b s x (2 ^ 32)
    ∙ ap (λ (n : ℕ). nearest_of (s * n) (2 ^ 32)) (sym ea)

some_great : (m n k l : ℕ) → (l < m) ⊎ ((l < n) ⊎ (l < k)) → (nat_lt l m || nat_lt l n || nat_lt l k) ≡ true
some_great m n k l (inl h) = grind (arith, nat_tests)
some_great m n k l (inr (inl h)) = grind (arith, nat_tests)
some_great m n k l (inr (inr h)) = grind (arith, nat_tests)

none_great : (m n k l : ℕ) → (m ≤ l) × (n ≤ l) × (k ≤ l) → (nat_lt l m || nat_lt l n || nat_lt l k) ≡ false
none_great m n k l h =
    let a : m ≤ l = h.0 in
    let b : n ≤ l = h.1 in
    let c : k ≤ l = h.2 in
    grind (arith, nat_tests)

tests_are : (b : Bool) (s a e g : ℕ) (v x y z : ℤ) → with_sign b s ≡ v → a ≡ unsigned_abs x → e ≡ unsigned_abs y → g ≡ unsigned_abs z → is_too_strong (force_along v (x ∷ y ∷ z ∷ [])) ≡ (nat_lt (2 ^ 42) (nearest_of (s * a) (2 ^ 32)) || nat_lt (2 ^ 42) (nearest_of (s * e) (2 ^ 32)) || nat_lt (2 ^ 42) (nearest_of (s * g) (2 ^ 32)))
unfolding force_along
tests_are b s a e g v x y z ev ea ee eg =
    ap (λ (n : ℕ). nat_lt (2 ^ 42) n || nat_lt (2 ^ 42) (unsigned_abs (shr_rounded (v *ℤ y) 32)) || nat_lt (2 ^ 42) (unsigned_abs (shr_rounded (v *ℤ z) 32))) (component_size b s a v x ev ea)
    ∙ ap (λ (n : ℕ). nat_lt (2 ^ 42) (nearest_of (s * a) (2 ^ 32)) || nat_lt (2 ^ 42) n || nat_lt (2 ^ 42) (unsigned_abs (shr_rounded (v *ℤ z) 32))) (component_size b s e v y ev ee)
    ∙ ap (λ (n : ℕ). nat_lt (2 ^ 42) (nearest_of (s * a) (2 ^ 32)) || nat_lt (2 ^ 42) (nearest_of (s * e) (2 ^ 32)) || nat_lt (2 ^ 42) n) (component_size b s g v z ev eg)

pub strong_true : (b : Bool) (s a e g : ℕ) (v x y z : ℤ) → with_sign b s ≡ v → a ≡ unsigned_abs x → e ≡ unsigned_abs y → g ≡ unsigned_abs z → (2 ^ 42 < nearest_of (s * a) (2 ^ 32)) ⊎ ((2 ^ 42 < nearest_of (s * e) (2 ^ 32)) ⊎ (2 ^ 42 < nearest_of (s * g) (2 ^ 32))) → is_too_strong (force_along v (x ∷ y ∷ z ∷ [])) ≡ true
strong_true b s a e g v x y z ev ea ee eg h = tests_are b s a e g v x y z ev ea ee eg ∙ some_great _ _ _ (2 ^ 42) h

pub strong_false : (b : Bool) (s a e g : ℕ) (v x y z : ℤ) → with_sign b s ≡ v → a ≡ unsigned_abs x → e ≡ unsigned_abs y → g ≡ unsigned_abs z → (nearest_of (s * a) (2 ^ 32) ≤ 2 ^ 42) × (nearest_of (s * e) (2 ^ 32) ≤ 2 ^ 42) × (nearest_of (s * g) (2 ^ 32) ≤ 2 ^ 42) → is_too_strong (force_along v (x ∷ y ∷ z ∷ [])) ≡ false
strong_false b s a e g v x y z ev ea ee eg h = tests_are b s a e g v x y z ev ea ee eg ∙ none_great _ _ _ (2 ^ 42) h

-- the parts of a term
pub same_term : (t u : Term) → t.f ≡ u.f → t.energy ≡ u.energy → t.virial ≡ u.virial → t ≡ u
same_term t u ef ee ev =
    let along_f : List ℤ → Term = λ p. record { f = p; energy = t.energy; virial = t.virial } in
    let along_e : ℤ → Term = λ p. record { f = u.f; energy = p; virial = t.virial } in
    let along_v : ℤ → Term = λ p. record { f = u.f; energy = u.energy; virial = p } in
    ap along_f ef ∙ ap along_e ee ∙ ap along_v ev

pub term_is : (t : Term) (b : Bool) (s q weight : ℕ) (v e : ℤ) (d : List ℤ) → t.f ≡ force_along (with_sign b q) d → t.energy ≡ shr_rounded (e *ℤ pos weight) 24 → t.virial ≡ dot d t.f → with_sign b s ≡ v → q ≡ nearest_of (s * weight) (2 ^ 24) → t ≡ weighted_term v (e -ℤ pos 0) weight d
unfolding weighted_term
term_is t b s q weight v e d ef ee ev es eq =
    let strength_is : with_sign b q ≡ shr_rounded (v *ℤ pos weight) 24 = ap (with_sign b) eq ∙ sym (weighted_is b s weight 24) ∙ ap (λ (z : ℤ). shr_rounded (z *ℤ pos weight) 24) es in
    let f_is : t.f ≡ force_along (shr_rounded (v *ℤ pos weight) 24) d = ef ∙ ap (λ (z : ℤ). force_along z d) strength_is in
    let base : e ≡ e -ℤ pos 0 = omega (arith, ints) in
    same_term t (weighted_term v (e -ℤ pos 0) weight d) f_is (ee ∙ ap (λ (z : ℤ). shr_rounded (z *ℤ pos weight) 24) base) (ev ∙ ap (dot d) f_is)

pub component_is : (p v x : ℤ) → FitsSigned w64 p → FitsSigned w64 x → p ≡ shr_rounded (v *ℤ to_z w64 (of_z w64 x)) 32 → to_z w64 (of_z w64 p) ≡ shr_rounded (v *ℤ x) 32
component_is p v x fp fx e = to_z-of_z w64 p fp ∙ e ∙ ap (λ (z : ℤ). shr_rounded (v *ℤ z) 32) (to_z-of_z w64 x fx)

pub force_is : (p q r v x y z : ℤ) → p ≡ shr_rounded (v *ℤ x) 32 → q ≡ shr_rounded (v *ℤ y) 32 → r ≡ shr_rounded (v *ℤ z) 32 → p ∷ q ∷ r ∷ [] ≡ force_along v (x ∷ y ∷ z ∷ [])
unfolding force_along
force_is p q r v x y z ep eq er =
    ap (λ (n : ℤ). n ∷ q ∷ r ∷ []) ep ∙ ap (λ (n : ℤ). shr_rounded (v *ℤ x) 32 ∷ n ∷ r ∷ []) eq ∙ ap (λ (n : ℤ). shr_rounded (v *ℤ x) 32 ∷ shr_rounded (v *ℤ y) 32 ∷ n ∷ []) er
