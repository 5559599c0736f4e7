-- What code reads of an angle, in the words of the definitions, and the outcomes of the term.
use Rattle.std.proofs.Common.{◌≡◌, ◌*◌, ◌^◌, ◌≤◌, ◌||◌, cond, Bool, true, false, ℕ, ℤ, pos, ◌+ℤ◌, ◌*ℤ◌, unsigned_abs, to_z, of_z, w64, FitsSigned, Option, Some, None, Result, Ok, Err, List, [], ◌∷◌, refl, sym, ap, ◌∙◌, arith}
use Rattle.std.specs.Int.{w128}
use Rattle.std.proofs.Math.IntN.{*ℤ_comm}
use Rattle.std.proofs.lemmas.Int.{ints, to_z-of_z, to_z_pos}
use Rattle.fx_num.specs.Rounding.{div_rounded}
use Rattle.box_geo.specs.Sides.{x_of, y_of, z_of, IsWithin}
use Rattle.box_geo.specs.Terms.{dot, is_too_strong}
use Rattle.bonded.specs.declared.angle.AngleTerm.{AngleTerm}
use Rattle.bonded.specs.declared.broken.Broken.{Broken}
use Rattle.bonded.specs.Angles.{angle_at, angle_energy, angle_force, angle_term, cosine, exchanged, in_range, turn_along, unless_broken}
use Rattle.bonded.specs.Lengths.{divided, is_out_of_reach, length_of, length_within, unless_strong}
use Rattle.bonded.proofs.LengthLemmas.{left_out, let_in}
use Rattle.bonded.proofs.SignLemmas.{bounded, two_read, valued, wide, word}

-- the cosine
pub cosine_read : (c q p f e : ℤ) (n : ℕ) (d1 d2 : List ℤ) (r1 r2 : ℕ) → c ≡ in_range (to_z w128 (of_z w128 q)) → unsigned_abs c ≤ 2 ^ 24
    → q ≡ div_rounded (to_z w128 (of_z w128 p)) (to_z w128 n) → unsigned_abs q ≤ unsigned_abs (to_z w128 (of_z w128 p))
    → p ≡ to_z w128 (of_z w128 e) *ℤ to_z w128 (of_z w128 f) → f ≡ pos (2 ^ 24) → e ≡ dot d1 d2 → unsigned_abs e ≤ 3 * 2 ^ 70 → n ≡ r1 * r2 → n ≤ 2 ^ 56
    → to_z w64 (of_z w64 c) ≡ cosine d1 d2 r1 r2
unfolding cosine
cosine_read c q p f e n d1 d2 r1 r2 ec lc eq lq ep ef ee le en ln =
    let f_is : to_z w128 (of_z w128 f) ≡ pos (2 ^ 24) = wide f (omega (arith, ints, ap unsigned_abs ef)) ∙ ef in
    let e_is : to_z w128 (of_z w128 e) ≡ e = wide e (omega arith) in
    let p_is : p ≡ e *ℤ pos (2 ^ 24) = valued p _ _ e (pos (2 ^ 24)) ep e_is f_is in
    let lp : unsigned_abs p ≤ 3 * 2 ^ 70 * 2 ^ 24 = bounded p e (pos (2 ^ 24)) (3 * 2 ^ 70) (2 ^ 24) p_is le (omega arith) in
    let p_held : to_z w128 (of_z w128 p) ≡ p = wide p (omega arith) in
    let q_low : unsigned_abs q ≤ 3 * 2 ^ 70 * 2 ^ 24 = omega (arith, ap unsigned_abs p_held) in
    word c (omega arith) ∙ ec ∙ ap in_range (wide q (omega arith) ∙ eq
    ∙ ap (λ (z : ℤ). div_rounded z (to_z w128 n)) (p_held ∙ p_is ∙ ap (λ (z : ℤ). z *ℤ pos (2 ^ 24)) ee)
    ∙ ap (λ (z : ℤ). div_rounded (dot d1 d2 *ℤ pos (2 ^ 24)) z) (to_z_pos w128 n (omega arith) ∙ ap pos en))

-- a force
along_read : (t k c : ℤ) (r s : ℕ) (x y : ℤ) → FitsSigned w64 k → FitsSigned w64 c → unsigned_abs x ≤ 2 ^ 28 → unsigned_abs y ≤ 2 ^ 28
    → t ≡ turn_along (to_z w64 (of_z w64 k)) (to_z w64 (of_z w64 c)) r s (to_z w64 (of_z w64 x)) (to_z w64 (of_z w64 y)) → unsigned_abs t ≤ 2 ^ 119 → to_z w128 (of_z w128 t) ≡ turn_along k c r s x y
along_read t k c r s x y fk fc lx ly e low =
    let k_is = to_z-of_z w64 k fk in
    let c_is = to_z-of_z w64 c fc in
    let x_is : to_z w64 (of_z w64 x) ≡ x = word x (omega arith) in
    let y_is : to_z w64 (of_z w64 y) ≡ y = word y (omega arith) in
    wide t (omega arith) ∙ e
    ∙ ap (λ (z : ℤ). turn_along z (to_z w64 (of_z w64 c)) r s (to_z w64 (of_z w64 x)) (to_z w64 (of_z w64 y))) k_is
    ∙ ap (λ (z : ℤ). turn_along k z r s (to_z w64 (of_z w64 x)) (to_z w64 (of_z w64 y))) c_is
    ∙ ap (λ (z : ℤ). turn_along k c r s z (to_z w64 (of_z w64 y))) x_is
    ∙ ap (λ (z : ℤ). turn_along k c r s x z) y_is

pub force_read : (o : Option (List ℤ)) (t u v k c : ℤ) (r s : ℕ) (d e : List ℤ) (n : ℕ) → FitsSigned w64 k → FitsSigned w64 c → IsWithin (2 ^ 28) d → IsWithin (2 ^ 28) e
    → t ≡ turn_along (to_z w64 (of_z w64 k)) (to_z w64 (of_z w64 c)) r s (to_z w64 (of_z w64 (x_of d))) (to_z w64 (of_z w64 (x_of e)))
    → u ≡ turn_along (to_z w64 (of_z w64 k)) (to_z w64 (of_z w64 c)) r s (to_z w64 (of_z w64 (y_of d))) (to_z w64 (of_z w64 (y_of e)))
    → v ≡ turn_along (to_z w64 (of_z w64 k)) (to_z w64 (of_z w64 c)) r s (to_z w64 (of_z w64 (z_of d))) (to_z w64 (of_z w64 (z_of e)))
    → unsigned_abs t ≤ 2 ^ 119 → unsigned_abs u ≤ 2 ^ 119 → unsigned_abs v ≤ 2 ^ 119 → n ≡ r * r * s
    → o ≡ unless_strong (divided (to_z w128 (of_z w128 t) ∷ to_z w128 (of_z w128 u) ∷ to_z w128 (of_z w128 v) ∷ []) n) → o ≡ unless_strong (angle_force k c r s d e)
unfolding angle_force
force_read o t u v k c r s d e n fk fc hd he et eu ev lt lu lv en is =
    let x = along_read t k c r s (x_of d) (x_of e) fk fc hd.0 he.0 et lt in
    let y = along_read u k c r s (y_of d) (y_of e) fk fc hd.1 he.1 eu lu in
    let z = along_read v k c r s (z_of d) (z_of e) fk fc hd.2 he.2 ev lv in
    is
    ∙ ap (λ (p : ℤ). unless_strong (divided (p ∷ to_z w128 (of_z w128 u) ∷ to_z w128 (of_z w128 v) ∷ []) n)) x
    ∙ ap (λ (p : ℤ). unless_strong (divided (turn_along k c r s (x_of d) (x_of e) ∷ p ∷ to_z w128 (of_z w128 v) ∷ []) n)) y
    ∙ ap (λ (p : ℤ). unless_strong (divided (turn_along k c r s (x_of d) (x_of e) ∷ turn_along k c r s (y_of d) (y_of e) ∷ p ∷ []) n)) z
    ∙ ap (λ (m : ℕ). unless_strong (divided (turn_along k c r s (x_of d) (x_of e) ∷ turn_along k c r s (y_of d) (y_of e) ∷ turn_along k c r s (z_of d) (z_of e) ∷ []) m)) en

-- the outcomes
or_right : (a b : Bool) → b ≡ true → (a || b) ≡ true
or_right true b e = refl
or_right false b e = e

pub first_out : (d1 d2 : List ℤ) (k rcmax : ℤ) → None ≡ length_within rcmax d1 → Err record {} ≡ angle_term d1 d2 k rcmax
unfolding angle_term
first_out d1 d2 k rcmax far =
    let h : is_out_of_reach rcmax d1 ≡ true = left_out (is_out_of_reach rcmax d1) (length_of d1) far in
    rw h refl

pub second_out : (d1 d2 : List ℤ) (k rcmax : ℤ) → None ≡ length_within rcmax d2 → Err record {} ≡ angle_term d1 d2 k rcmax
unfolding angle_term
second_out d1 d2 k rcmax far =
    let h : is_out_of_reach rcmax d2 ≡ true = left_out (is_out_of_reach rcmax d2) (length_of d2) far in
    let g : (is_out_of_reach rcmax d1 || is_out_of_reach rcmax d2) ≡ true = or_right (is_out_of_reach rcmax d1) (is_out_of_reach rcmax d2) h in
    rw g refl

-- where both are in reach
within_reach : (d1 d2 : List ℤ) (k rcmax : ℤ) (r1 r2 : ℕ) (c : ℤ) → Some r1 ≡ length_within rcmax d1 → Some r2 ≡ length_within rcmax d2 → c ≡ cosine d1 d2 r1 r2
    → angle_term d1 d2 k rcmax ≡ unless_broken (angle_at k c r1 r2 d1 d2)
unfolding angle_term
within_reach d1 d2 k rcmax r1 r2 c near1 near2 ec =
    let h1 = let_in (is_out_of_reach rcmax d1) (length_of d1) r1 near1 in
    let h2 = let_in (is_out_of_reach rcmax d2) (length_of d2) r2 near2 in
    let g1 : is_out_of_reach rcmax d1 ≡ false = h1.0 in
    let g2 : is_out_of_reach rcmax d2 ≡ false = h2.0 in
    let l1 : length_of d1 ≡ r1 = sym h1.1 in
    let l2 : length_of d2 ≡ r2 = sym h2.1 in
    rw (g1, g2)
    (ap (λ (n : ℕ). unless_broken (angle_at k (cosine d1 d2 n (length_of d2)) n (length_of d2) d1 d2)) l1
    ∙ ap (λ (n : ℕ). unless_broken (angle_at k (cosine d1 d2 r1 n) r1 n d1 d2)) l2
    ∙ ap (λ (z : ℤ). unless_broken (angle_at k z r1 r2 d1 d2)) (sym ec))

first_strong : (t : AngleTerm) → is_too_strong t.fa ≡ true → Err record {} ≡ unless_broken t
first_strong t h = rw h refl

second_strong : (t : AngleTerm) → is_too_strong t.fc ≡ true → Err record {} ≡ unless_broken t
second_strong t h =
    let g : (is_too_strong t.fa || is_too_strong t.fc) ≡ true = or_right (is_too_strong t.fa) (is_too_strong t.fc) h in
    rw g refl

both_mild : (t : AngleTerm) → is_too_strong t.fa ≡ false → is_too_strong t.fc ≡ false → Ok t ≡ unless_broken t
both_mild t h g = rw (h, g) refl

pub first_broken : (d1 d2 : List ℤ) (k rcmax : ℤ) (r1 r2 : ℕ) (c : ℤ) → Some r1 ≡ length_within rcmax d1 → Some r2 ≡ length_within rcmax d2 → c ≡ cosine d1 d2 r1 r2
    → None ≡ unless_strong (angle_force k c r1 r2 d1 d2) → Err record {} ≡ angle_term d1 d2 k rcmax
unfolding angle_at
first_broken d1 d2 k rcmax r1 r2 c near1 near2 ec strong =
    first_strong (angle_at k c r1 r2 d1 d2) (left_out (is_too_strong (angle_force k c r1 r2 d1 d2)) (angle_force k c r1 r2 d1 d2) strong)
    ∙ sym (within_reach d1 d2 k rcmax r1 r2 c near1 near2 ec)

pub second_broken : (d1 d2 : List ℤ) (k rcmax : ℤ) (r1 r2 : ℕ) (c : ℤ) → Some r1 ≡ length_within rcmax d1 → Some r2 ≡ length_within rcmax d2 → c ≡ cosine d1 d2 r1 r2
    → None ≡ unless_strong (angle_force k c r2 r1 d2 d1) → Err record {} ≡ angle_term d1 d2 k rcmax
unfolding angle_at
second_broken d1 d2 k rcmax r1 r2 c near1 near2 ec strong =
    second_strong (angle_at k c r1 r2 d1 d2) (left_out (is_too_strong (angle_force k c r2 r1 d2 d1)) (angle_force k c r2 r1 d2 d1) strong)
    ∙ sym (within_reach d1 d2 k rcmax r1 r2 c near1 near2 ec)

made : List ℤ → List ℤ → ℤ → ℤ → Result AngleTerm Broken
made f g e v = Ok record { fa = f; fc = g; energy = e; virial = v }

made_is : (f f' g g' : List ℤ) (e e' v v' : ℤ) → f ≡ f' → g ≡ g' → e ≡ e' → v ≡ v' → made f g e v ≡ made f' g' e' v'
made_is f f' g g' e e' v v' ef eg ee ev =
    ap (λ (x : List ℤ). made x g e v) ef ∙ ap (λ (x : List ℤ). made f' x e v) eg ∙ ap (λ (x : ℤ). made f' g' x v) ee ∙ ap (made f' g' e') ev

pub term_is : (d1 d2 : List ℤ) (k rcmax : ℤ) (r1 r2 : ℕ) (c : ℤ) (f g : List ℤ) (e v : ℤ) → Some r1 ≡ length_within rcmax d1 → Some r2 ≡ length_within rcmax d2 → c ≡ cosine d1 d2 r1 r2
    → Some f ≡ unless_strong (angle_force k c r1 r2 d1 d2) → Some g ≡ unless_strong (angle_force k c r2 r1 d2 d1) → e ≡ angle_energy k c → v ≡ dot d1 f +ℤ dot d2 g
    → Ok record { fa = f; fc = g; energy = e; virial = v } ≡ angle_term d1 d2 k rcmax
unfolding angle_at made
term_is d1 d2 k rcmax r1 r2 c f g e v near1 near2 ec mild1 mild2 ee ev =
    let m1 = let_in (is_too_strong (angle_force k c r1 r2 d1 d2)) (angle_force k c r1 r2 d1 d2) f mild1 in
    let m2 = let_in (is_too_strong (angle_force k c r2 r1 d2 d1)) (angle_force k c r2 r1 d2 d1) g mild2 in
    let v_is : v ≡ dot d1 (angle_force k c r1 r2 d1 d2) +ℤ dot d2 (angle_force k c r2 r1 d2 d1) = ev ∙ ap (λ (x : List ℤ). dot d1 x +ℤ dot d2 g) m1.1 ∙ ap (λ (x : List ℤ). dot d1 (angle_force k c r1 r2 d1 d2) +ℤ dot d2 x) m2.1 in
    made_is f (angle_force k c r1 r2 d1 d2) g (angle_force k c r2 r1 d2 d1) e (angle_energy k c) v (dot d1 (angle_force k c r1 r2 d1 d2) +ℤ dot d2 (angle_force k c r2 r1 d2 d1)) m1.1 m2.1 ee v_is
    ∙ both_mild (angle_at k c r1 r2 d1 d2) m1.0 m2.0
    ∙ sym (within_reach d1 d2 k rcmax r1 r2 c near1 near2 ec)

-- what the whole call reads
pub outer_read : (o : Option (List ℤ)) (k c : ℤ) (r s : ℕ) (d e : List ℤ) → FitsSigned w64 k → unsigned_abs c ≤ 2 ^ 24
    → o ≡ unless_strong (angle_force (to_z w64 (of_z w64 k)) (to_z w64 (of_z w64 c)) r s d e) → o ≡ unless_strong (angle_force k c r s d e)
outer_read o k c r s d e fk low is =
    is ∙ ap (λ (z : ℤ). unless_strong (angle_force z (to_z w64 (of_z w64 c)) r s d e)) (to_z-of_z w64 k fk) ∙ ap (λ (z : ℤ). unless_strong (angle_force k z r s d e)) (word c (omega arith))

pub energy_read : (v k c : ℤ) → FitsSigned w64 k → unsigned_abs c ≤ 2 ^ 24 → v ≡ angle_energy (to_z w64 (of_z w64 k)) (to_z w64 (of_z w64 c)) → unsigned_abs v ≤ 2 ^ 39 → to_z w64 (of_z w64 v) ≡ angle_energy k c
energy_read v k c fk low is small =
    word v (omega arith) ∙ is ∙ ap (λ (z : ℤ). angle_energy z (to_z w64 (of_z w64 c))) (to_z-of_z w64 k fk) ∙ ap (angle_energy k) (word c (omega arith))

pub virial_read : (p q : ℤ) (d1 d2 f g : List ℤ) → unsigned_abs p ≤ 3 * 2 ^ 70 → unsigned_abs q ≤ 3 * 2 ^ 70 → p ≡ dot d1 f → q ≡ dot d2 g → to_z w128 (of_z w128 (to_z w128 (of_z w128 p) +ℤ to_z w128 (of_z w128 q))) ≡ dot d1 f +ℤ dot d2 g
virial_read p q d1 d2 f g lp lq ep eq = two_read p q (3 * 2 ^ 70) lp lq (omega arith) ∙ ap (λ (z : ℤ). z +ℤ q) ep ∙ ap (λ (z : ℤ). dot d1 f +ℤ z) eq

-- the outer atoms exchanged
dot-comm : (d e : List ℤ) → dot d e ≡ dot e d
dot-comm d e =
    let x = *ℤ_comm (x_of d) (x_of e) in
    let y = *ℤ_comm (y_of d) (y_of e) in
    let z = *ℤ_comm (z_of d) (z_of e) in
    cc

cosine-comm : (d1 d2 : List ℤ) (r1 r2 : ℕ) → cosine d2 d1 r2 r1 ≡ cosine d1 d2 r1 r2
unfolding cosine
cosine-comm d1 d2 r1 r2 =
    ap (λ (z : ℤ). in_range (div_rounded (z *ℤ pos (2 ^ 24)) (pos (r2 * r1)))) (dot-comm d2 d1)
    ∙ ap (λ (n : ℕ). in_range (div_rounded (dot d1 d2 *ℤ pos (2 ^ 24)) (pos n))) (omega arith)

or_comm : (a b : Bool) → (a || b) ≡ (b || a)
or_comm true true = refl
or_comm true false = refl
or_comm false true = refl
or_comm false false = refl

abbrev outcome : Bool → Bool → Result AngleTerm Broken → Result AngleTerm Broken
outcome far strong t = cond far (Err record {}) (cond strong (Err record {}) t)

outcome-exchanged : (far strong : Bool) (t : Result AngleTerm Broken) → outcome far strong (exchanged t) ≡ exchanged (outcome far strong t)
outcome-exchanged true strong t = refl
outcome-exchanged false true t = refl
outcome-exchanged false false t = refl

sum_comm : (a b : ℤ) → a +ℤ b ≡ b +ℤ a
sum_comm a b = omega (arith, ints)

term-exchanged : (k c : ℤ) (r1 r2 : ℕ) (d1 d2 : List ℤ) → Ok (angle_at k c r2 r1 d2 d1) ≡ exchanged (Ok (angle_at k c r1 r2 d1 d2))
unfolding angle_at made
term-exchanged k c r1 r2 d1 d2 =
    ap (made (angle_force k c r2 r1 d2 d1) (angle_force k c r1 r2 d1 d2) (angle_energy k c)) (sum_comm (dot d2 (angle_force k c r2 r1 d2 d1)) (dot d1 (angle_force k c r1 r2 d1 d2)))

forces-exchanged : (k c : ℤ) (r1 r2 : ℕ) (d1 d2 : List ℤ) → (is_too_strong (angle_at k c r2 r1 d2 d1).fa || is_too_strong (angle_at k c r2 r1 d2 d1).fc) ≡ (is_too_strong (angle_at k c r1 r2 d1 d2).fa || is_too_strong (angle_at k c r1 r2 d1 d2).fc)
unfolding angle_at
forces-exchanged k c r1 r2 d1 d2 = or_comm (is_too_strong (angle_force k c r2 r1 d2 d1)) (is_too_strong (angle_force k c r1 r2 d1 d2))

pub angle_term-exchanged : (d1 d2 : List ℤ) (k rcmax : ℤ) → angle_term d2 d1 k rcmax ≡ exchanged (angle_term d1 d2 k rcmax)
unfolding angle_term
angle_term-exchanged d1 d2 k rcmax =
    let r1 = length_of d1 in
    let r2 = length_of d2 in
    let t : AngleTerm = angle_at k (cosine d1 d2 r1 r2) r1 r2 d1 d2 in
    let u : AngleTerm = angle_at k (cosine d1 d2 r1 r2) r2 r1 d2 d1 in
    ap (λ (b : Bool). cond b (Err record {}) (unless_broken (angle_at k (cosine d2 d1 r2 r1) r2 r1 d2 d1))) (or_comm (is_out_of_reach rcmax d2) (is_out_of_reach rcmax d1))
    ∙ ap (λ (z : ℤ). cond (is_out_of_reach rcmax d1 || is_out_of_reach rcmax d2) (Err record {}) (unless_broken (angle_at k z r2 r1 d2 d1))) (cosine-comm d1 d2 r1 r2)
    ∙ ap (λ (b : Bool). outcome (is_out_of_reach rcmax d1 || is_out_of_reach rcmax d2) b (Ok u)) (forces-exchanged k (cosine d1 d2 r1 r2) r1 r2 d1 d2)
    ∙ ap (outcome (is_out_of_reach rcmax d1 || is_out_of_reach rcmax d2) (is_too_strong t.fa || is_too_strong t.fc)) (term-exchanged k (cosine d1 d2 r1 r2) r1 r2 d1 d2)
    ∙ outcome-exchanged (is_out_of_reach rcmax d1 || is_out_of_reach rcmax d2) (is_too_strong t.fa || is_too_strong t.fc) (Ok t)
