-- The quick way to a term.
use Rattle.std.proofs.Common.{◌≡◌, ◌+◌, ◌*◌, ◌^◌, ◌<◌, ◌≤◌, Bool, false, ℕ, ℤ, pos, ◌-ℤ◌, ◌*ℤ◌, unsigned_abs, Ok, Some, Result, Option, List, [], ◌∷◌, sym, ap, subst, ◌∙◌, arith}
use Rattle.std.proofs.lemmas.Int.{ints}
use Rattle.std.proofs.lemmas.Nat.{mul-le}
use Rattle.fx_num.specs.Rounding.{nearest_of, with_sign, div_rounded, shr_rounded, RoundsTo}
use Rattle.fx_num.proofs.RoundingLemmas.{rounded_is}
use Rattle.box_geo.specs.declared.term.Term.{Term}
use Rattle.box_geo.specs.Sides.{length2}
use Rattle.pair_lj.specs.declared.close.Close.{Close}
use Rattle.box_geo.specs.Terms.{dot}
use Rattle.pair_lj.specs.PairTerm.{inverse_square, sixth_power, twelfth_power, strength, energy_at, force_along, is_too_near, weighted_term, pair_term}
use Rattle.pair_lj.proofs.SignLemmas.{strength_is}
use Rattle.pair_lj.proofs.Cases.{moderate, near_false, read_ratio, read_sixth, read_twelfth, read_strength, strong_false, same_term}
use Rattle.pair_lj.proofs.PairLemmas.{weighted_term-whole}

-- a component beyond the greatest cutoff is beyond each
pub far_along : (k a b c : ℕ) → k ≤ 2 ^ 28 → 2 ^ 28 ≤ a → k * k ≤ a * a + b * b + c * c
far_along k a b c short far =
    let whole : k * k ≤ a * a = mul-le k k a a (omega arith) (omega arith) in
    omega arith

-- what is a rounded quotient has a divisor
pub some_divisor : (n d q : ℕ) → RoundsTo n d q → 0 < d
some_divisor n d q r =
    let high : 2 * (q * d) ≤ 2 * n + d = r.at_most in
    let low : 2 * n < 2 * (q * d) + d = r.at_least in
    grind arith

quotient_is : (n m d q : ℕ) → n ≡ m → RoundsTo n d q → q ≡ nearest_of m d
quotient_is n m d q e r = rounded_is n d q (some_divisor n d q r) r ∙ ap (λ (x : ℕ). nearest_of x d) e

push_along : (push eps gap : ℕ) → push ≡ 24 * eps * 2 ^ 24 → push * gap ≡ 24 * eps * gap * 2 ^ 24
push_along push eps gap is = ap (λ (p : ℕ). p * gap) is ∙ omega arith

pub ratio_is : (s sigma r2 w : ℕ) → RoundsTo (s * 2 ^ 32) r2 w → s ≡ sigma * sigma → w ≡ nearest_of (sigma * sigma * 2 ^ 32) r2
ratio_is s sigma r2 w r is = quotient_is (s * 2 ^ 32) (sigma * sigma * 2 ^ 32) r2 w (ap (λ (n : ℕ). n * 2 ^ 32) is) r

pub strength_is_right : (push eps gap r2 size : ℕ) → RoundsTo (push * gap) r2 size → push ≡ 24 * eps * 2 ^ 24 → size ≡ nearest_of (24 * eps * gap * 2 ^ 24) r2
strength_is_right push eps gap r2 size r is = quotient_is (push * gap) (24 * eps * gap * 2 ^ 24) r2 size (push_along push eps gap is) r

signed_strength : (b : Bool) (eps s6 s12 gap size r2 : ℕ) → with_sign b gap ≡ pos (2 * s12) -ℤ pos s6 → size ≡ nearest_of (24 * eps * gap * 2 ^ 24) r2 → with_sign b size ≡ div_rounded (pos (24 * eps) *ℤ (pos (2 * s12) -ℤ pos s6) *ℤ pos (2 ^ 24)) (pos r2)
signed_strength b eps s6 s12 gap size r2 eg es =
    ap (with_sign b) es
    ∙ sym (strength_is b (24 * eps) gap (2 ^ 24) r2)
    ∙ ap (λ (z : ℤ). div_rounded (pos (24 * eps) *ℤ z *ℤ pos (2 ^ 24)) (pos r2)) eg

read_whole_energy : (v : ℤ) (eps sigma s t l : ℕ) → v ≡ shr_rounded (pos (4 * eps) *ℤ (pos t -ℤ pos s)) 32 → s ≡ sixth_power sigma l → t ≡ twelfth_power sigma l → v ≡ energy_at eps sigma l
unfolding energy_at
read_whole_energy v eps sigma s t l e es et =
    e ∙ ap (λ (n : ℕ). shr_rounded (pos (4 * eps) *ℤ (pos n -ℤ pos s)) 32) et
    ∙ ap (λ (n : ℕ). shr_rounded (pos (4 * eps) *ℤ (pos (twelfth_power sigma l) -ℤ pos n)) 32) es

whole_term : (t : Term) (v e : ℤ) (d : List ℤ) → t.f ≡ force_along v d → t.energy ≡ e → t.virial ≡ dot d t.f → t ≡ weighted_term v (e -ℤ pos 0) (2 ^ 24) d
whole_term t v e d ef ee ev =
    let base : e ≡ e -ℤ pos 0 = omega (arith, ints) in
    let u : Term = record { f = force_along v d; energy = e -ℤ pos 0; virial = dot d (force_along v d) } in
    same_term t u ef (ee ∙ base) (ev ∙ ap (dot d) ef) ∙ sym (weighted_term-whole v (e -ℤ pos 0) d)

-- the powers of a right guess are those of the definition
pub record ArePowers (sigma l w s6 s12 : ℕ) : Type 0 where
  pub wide : is_too_near sigma l ≡ false
  pub sixth : s6 ≡ sixth_power sigma l
  pub twelfth : s12 ≡ twelfth_power sigma l

pub powers : (sigma r2 l w s6 s12 : ℕ) → r2 ≡ l → 0 < r2 → w ≡ nearest_of (sigma * sigma * 2 ^ 32) r2 → w ≤ 2 ^ 36 → s6 ≡ nearest_of (w * w * w) (2 ^ 64) → s12 ≡ nearest_of (s6 * s6) (2 ^ 32) → ArePowers sigma l w s6 s12
powers sigma r2 l w s6 s12 er some ew low es et =
    let w_is : w ≡ inverse_square sigma l = read_ratio w sigma r2 l ew er in
    let s6_is : s6 ≡ sixth_power sigma l = read_sixth s6 w sigma l es w_is in
    record {
      wide = near_false sigma l (subst (λ (n : ℕ). 0 < n) er some) (subst (λ (n : ℕ). n ≤ 2 ^ 36) w_is low);
      sixth = s6_is;
      twelfth = read_twelfth s12 s6 sigma l et s6_is;
    }

-- the term of a right guess is that of the definition
pub quick : (t : Term) (b : Bool) (eps sigma cut r2 w s6 s12 gap size m n o : ℕ) (e x y z : ℤ)
    → r2 ≡ length2 (x ∷ y ∷ z ∷ []) → r2 < cut * cut → ArePowers sigma (length2 (x ∷ y ∷ z ∷ [])) w s6 s12
    → with_sign b gap ≡ pos (2 * s12) -ℤ pos s6 → size ≡ nearest_of (24 * eps * gap * 2 ^ 24) r2
    → m ≡ unsigned_abs x → n ≡ unsigned_abs y → o ≡ unsigned_abs z
    → (nearest_of (size * m) (2 ^ 32) ≤ 2 ^ 42) × (nearest_of (size * n) (2 ^ 32) ≤ 2 ^ 42) × (nearest_of (size * o) (2 ^ 32) ≤ 2 ^ 42)
    → t.f ≡ force_along (with_sign b size) (x ∷ y ∷ z ∷ []) → t.virial ≡ dot (x ∷ y ∷ z ∷ []) t.f
    → t.energy ≡ e → e ≡ shr_rounded (pos (4 * eps) *ℤ (pos s12 -ℤ pos s6)) 32
    → Ok (Some t) ≡ pair_term eps sigma cut (pos 0) (2 ^ 24) (x ∷ y ∷ z ∷ [])
quick t b eps sigma cut r2 w s6 s12 gap size m n o e x y z er near p eg es em en eo mild ef ev ee e_is =
    let d : List ℤ = x ∷ y ∷ z ∷ [] in
    let v : ℤ = strength eps sigma (length2 d) in
    let within : length2 d < cut * cut = subst (λ (i : ℕ). i < cut * cut) er near in
    let v_is : with_sign b size ≡ v = read_strength (with_sign b size) eps sigma s6 s12 r2 (length2 d) (signed_strength b eps s6 s12 gap size r2 eg es) p.sixth p.twelfth er in
    let f_is : t.f ≡ force_along v d = ef ∙ ap (λ (i : ℤ). force_along i d) v_is in
    let energy_is : t.energy ≡ energy_at eps sigma (length2 d) = ee ∙ read_whole_energy e eps sigma s6 s12 (length2 d) e_is p.sixth p.twelfth in
    let same : t ≡ weighted_term v (energy_at eps sigma (length2 d) -ℤ pos 0) (2 ^ 24) d = whole_term t v (energy_at eps sigma (length2 d)) d f_is energy_is ev in
    let step : Term → Result (Option Term) Close = λ i. Ok (Some i) in
    ap step same ∙ sym (moderate eps sigma cut (pos 0) (2 ^ 24) d within p.wide (strong_false b size m n o v x y z v_is em en eo mild))
