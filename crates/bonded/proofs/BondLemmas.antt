-- What the crates above cite of the bond term: its outcomes, and that it is odd.
use Rattle.std.proofs.Common.{◌≡◌, ◌*◌, ◌^◌, ◌≤◌, Bool, true, false, cond, ℕ, ℤ, pos, neg_ℤ, ◌-ℤ◌, ◌*ℤ◌, unsigned_abs, to_z, of_z, w64, FitsSigned, Option, Some, None, Result, Ok, Err, List, refl, sym, ap, subst, ◌∙◌, arith}
use Rattle.std.specs.Int.{w128}
use Rattle.std.proofs.Math.IntN.{neg_ℤ-neg_ℤ, *ℤ_comm}
use Rattle.std.proofs.lemmas.Int.{ints, to_z-of_z}
use Rattle.fx_num.specs.Rounding.{div_rounded, shr_rounded}
use Rattle.fx_num.proofs.RoundingLemmas.{neg_ℤ-*ℤ, div_rounded-neg}
use Rattle.box_geo.specs.declared.term.Term.{Term}
use Rattle.box_geo.specs.Sides.{x_of, y_of, z_of, length2, IsOpposite}
use Rattle.box_geo.specs.Terms.{dot, is_too_strong}
use Rattle.box_geo.proofs.NearLemmas.{length2-opposite}
use Rattle.bonded.specs.declared.broken.Broken.{Broken}
use Rattle.bonded.specs.Bonds.{bond_at, bond_energy, bond_force, bond_term, times, AreOpposite}
use Rattle.bonded.specs.Lengths.{divided, is_out_of_reach, length_of, length_within, unless_strong}
use Rattle.bonded.proofs.LengthLemmas.{left_out, let_in}
use Rattle.bonded.proofs.SignLemmas.{wide, word}

-- what code reads, in the words of the definitions
pub force_read : (o : Option (List ℤ)) (k gap r0 : ℤ) (r : ℕ) (d : List ℤ) → FitsSigned w64 k → unsigned_abs gap ≤ 2 ^ 28 → gap ≡ r0 -ℤ pos r
    → o ≡ unless_strong (divided (times (pos 2 *ℤ to_z w64 (of_z w64 k) *ℤ to_z w64 (of_z w64 gap)) d) (r * 2 ^ 24)) → o ≡ unless_strong (bond_force k r0 r d)
unfolding bond_force
force_read o k gap r0 r d fits low gap_is e =
    e
    ∙ ap (λ (z : ℤ). unless_strong (divided (times (pos 2 *ℤ z *ℤ to_z w64 (of_z w64 gap)) d) (r * 2 ^ 24))) (to_z-of_z w64 k fits)
    ∙ ap (λ (z : ℤ). unless_strong (divided (times (pos 2 *ℤ k *ℤ z) d) (r * 2 ^ 24))) (word gap (omega arith) ∙ gap_is)

pub energy_read : (v k gap r0 : ℤ) (r : ℕ) → FitsSigned w64 k → unsigned_abs gap ≤ 2 ^ 28 → gap ≡ r0 -ℤ pos r
    → v ≡ shr_rounded (to_z w64 (of_z w64 k) *ℤ (to_z w64 (of_z w64 gap) *ℤ to_z w64 (of_z w64 gap))) 48 → unsigned_abs v ≤ 2 ^ 46 → to_z w64 (of_z w64 v) ≡ bond_energy k r0 r
unfolding bond_energy
energy_read v k gap r0 r fits low gap_is e small =
    word v (omega arith) ∙ e
    ∙ ap (λ (z : ℤ). shr_rounded (z *ℤ (to_z w64 (of_z w64 gap) *ℤ to_z w64 (of_z w64 gap))) 48) (to_z-of_z w64 k fits)
    ∙ ap (λ (z : ℤ). shr_rounded (k *ℤ (z *ℤ z)) 48) (word gap (omega arith) ∙ gap_is)

pub virial_read : (v : ℤ) (d f : List ℤ) → unsigned_abs v ≤ 3 * 2 ^ 70 → v ≡ dot d f → to_z w128 (of_z w128 v) ≡ dot d f
virial_read v d f low e = wide v (omega arith) ∙ e

-- the outcomes
pub out_of_reach : (d : List ℤ) (k r0 rcmax : ℤ) → None ≡ length_within rcmax d → Err record {} ≡ bond_term d k r0 rcmax
unfolding bond_term
out_of_reach d k r0 rcmax far =
    let h : is_out_of_reach rcmax d ≡ true = left_out (is_out_of_reach rcmax d) (length_of d) far in
    rw h refl

pub too_strong : (d : List ℤ) (k r0 rcmax : ℤ) (r : ℕ) → Some r ≡ length_within rcmax d → None ≡ unless_strong (bond_force k r0 r d) → Err record {} ≡ bond_term d k r0 rcmax
unfolding bond_term
too_strong d k r0 rcmax r near strong =
    let h = let_in (is_out_of_reach rcmax d) (length_of d) r near in
    let g : is_out_of_reach rcmax d ≡ false = h.0 in
    let s : is_too_strong (bond_force k r0 (length_of d) d) ≡ true = ap (λ (n : ℕ). is_too_strong (bond_force k r0 n d)) (sym h.1) ∙ left_out (is_too_strong (bond_force k r0 r d)) (bond_force k r0 r d) strong in
    rw (g, s) refl

made : List ℤ → ℤ → ℤ → Result Term Broken
made f e v = Ok record { f = f; energy = e; virial = v }

pub term_is : (d : List ℤ) (k r0 rcmax : ℤ) (r : ℕ) (f : List ℤ) (e v : ℤ) → Some r ≡ length_within rcmax d → Some f ≡ unless_strong (bond_force k r0 r d) → e ≡ bond_energy k r0 r → v ≡ dot d f
    → Ok record { f = f; energy = e; virial = v } ≡ bond_term d k r0 rcmax
unfolding bond_term bond_at made
term_is d k r0 rcmax r f e v near mild ee ev =
    let h = let_in (is_out_of_reach rcmax d) (length_of d) r near in
    let g : is_out_of_reach rcmax d ≡ false = h.0 in
    let m = let_in (is_too_strong (bond_force k r0 r d)) (bond_force k r0 r d) f mild in
    let s : is_too_strong (bond_force k r0 (length_of d) d) ≡ false = ap (λ (n : ℕ). is_too_strong (bond_force k r0 n d)) (sym h.1) ∙ m.0 in
    let f_is : f ≡ bond_force k r0 (length_of d) d = m.1 ∙ ap (λ (n : ℕ). bond_force k r0 n d) h.1 in
    let e_is : e ≡ bond_energy k r0 (length_of d) = ee ∙ ap (bond_energy k r0) h.1 in
    let v_is : v ≡ dot d (bond_force k r0 (length_of d) d) = ev ∙ ap (dot d) f_is in
    let all : made f e v ≡ made (bond_force k r0 (length_of d) d) (bond_energy k r0 (length_of d)) (dot d (bond_force k r0 (length_of d) d)) =
    ap (λ (x : List ℤ). made x e v) f_is ∙ ap (λ (x : ℤ). made (bond_force k r0 (length_of d) d) x v) e_is ∙ ap (made (bond_force k r0 (length_of d) d) (bond_energy k r0 (length_of d))) v_is in
    rw (g, s) all

-- signs in products
*ℤ-neg_ℤ : (c x : ℤ) → c *ℤ neg_ℤ x ≡ neg_ℤ (c *ℤ x)
*ℤ-neg_ℤ c x = *ℤ_comm c (neg_ℤ x) ∙ neg_ℤ-*ℤ x c ∙ ap neg_ℤ (*ℤ_comm x c)

both_turned : (x f : ℤ) → neg_ℤ x *ℤ neg_ℤ f ≡ x *ℤ f
both_turned x f = neg_ℤ-*ℤ x (neg_ℤ f) ∙ ap neg_ℤ (*ℤ-neg_ℤ x f) ∙ neg_ℤ-neg_ℤ (x *ℤ f)

along-opposite : (c x y : ℤ) (n : ℕ) → y ≡ neg_ℤ x → div_rounded (c *ℤ y) (pos n) ≡ neg_ℤ (div_rounded (c *ℤ x) (pos n))
along-opposite c x y n e = ap (λ (v : ℤ). div_rounded (c *ℤ v) (pos n)) e ∙ ap (λ (v : ℤ). div_rounded v (pos n)) (*ℤ-neg_ℤ c x) ∙ div_rounded-neg (c *ℤ x) (pos n)

bond_force-opposite : (k r0 : ℤ) (r : ℕ) (d e : List ℤ) → IsOpposite d e → IsOpposite (bond_force k r0 r d) (bond_force k r0 r e)
unfolding bond_force
bond_force-opposite k r0 r d e h =
    let c : ℤ = pos 2 *ℤ k *ℤ (r0 -ℤ pos r) in
    (along-opposite c (x_of d) (x_of e) (r * 2 ^ 24) h.0, along-opposite c (y_of d) (y_of e) (r * 2 ^ 24) h.1, along-opposite c (z_of d) (z_of e) (r * 2 ^ 24) h.2)

product-opposite : (x y f g : ℤ) → y ≡ neg_ℤ x → g ≡ neg_ℤ f → y *ℤ g ≡ x *ℤ f
product-opposite x y f g ex ef = ap (λ (v : ℤ). v *ℤ g) ex ∙ ap (λ (v : ℤ). neg_ℤ x *ℤ v) ef ∙ both_turned x f

dot-opposite : (d e f g : List ℤ) → IsOpposite d e → IsOpposite f g → dot e g ≡ dot d f
dot-opposite d e f g h k =
    let x = product-opposite (x_of d) (x_of e) (x_of f) (x_of g) h.0 k.0 in
    let y = product-opposite (y_of d) (y_of e) (y_of f) (y_of g) h.1 k.1 in
    let z = product-opposite (z_of d) (z_of e) (z_of f) (z_of g) h.2 k.2 in
    cc

size-opposite : (f g : ℤ) → g ≡ neg_ℤ f → unsigned_abs g ≡ unsigned_abs f
size-opposite f g e = omega (arith, ints, ap unsigned_abs e)

is_too_strong-opposite : (f g : List ℤ) → IsOpposite f g → is_too_strong g ≡ is_too_strong f
is_too_strong-opposite f g h =
    let x = size-opposite (x_of f) (x_of g) h.0 in
    let y = size-opposite (y_of f) (y_of g) h.1 in
    let z = size-opposite (z_of f) (z_of g) h.2 in
    cc

-- the outcome by its two tests
abbrev outcome : Bool → Bool → Term → Result Term Broken
outcome far strong t = cond far (Err record {}) (cond strong (Err record {}) (Ok t))

outcome-opposite : (far strong : Bool) (s t : Term) → IsOpposite s.f t.f → t.energy ≡ s.energy → t.virial ≡ s.virial → AreOpposite (outcome far strong s) (outcome far strong t)
outcome-opposite true strong s t f e v = tt
outcome-opposite false true s t f e v = tt
outcome-opposite false false s t f e v = (f, e, v)

-- the bond term by the distance and whether it is out of reach
abbrev bond_by : ℤ → ℤ → Bool → ℕ → List ℤ → Result Term Broken
bond_by k r0 far r d = outcome far (is_too_strong (bond_force k r0 r d)) (bond_at k r0 r d)

bond_by-opposite : (k r0 : ℤ) (far : Bool) (r : ℕ) (d e : List ℤ) → IsOpposite d e → AreOpposite (bond_by k r0 far r d) (bond_by k r0 far r e)
unfolding bond_at
bond_by-opposite k r0 far r d e h =
    let f = bond_force-opposite k r0 r d e h in
    let same = is_too_strong-opposite (bond_force k r0 r d) (bond_force k r0 r e) f in
    let on : Bool → Type 0 = λ b. AreOpposite (bond_by k r0 far r d) (outcome far b (bond_at k r0 r e)) in
    subst on (sym same) (outcome-opposite far (is_too_strong (bond_force k r0 r d)) (bond_at k r0 r d) (bond_at k r0 r e) f refl (dot-opposite d e (bond_force k r0 r d) (bond_force k r0 r e) h f))

reach-opposite : (rcmax : ℤ) (d e : List ℤ) → length2 e ≡ length2 d → is_out_of_reach rcmax e ≡ is_out_of_reach rcmax d
reach-opposite rcmax d e h = cc

length-opposite : (d e : List ℤ) → length2 e ≡ length2 d → length_of e ≡ length_of d
unfolding length_of
length-opposite d e h = cc

pub bond_term-opposite : (d e : List ℤ) (k r0 rcmax : ℤ) → IsOpposite d e → AreOpposite (bond_term d k r0 rcmax) (bond_term e k r0 rcmax)
unfolding bond_term
bond_term-opposite d e k r0 rcmax h =
    let l : length2 e ≡ length2 d = length2-opposite d e h in
    let by_far : Bool → Type 0 = λ b. AreOpposite (bond_by k r0 (is_out_of_reach rcmax d) (length_of d) d) (bond_by k r0 b (length_of e) e) in
    let by_length : ℕ → Type 0 = λ n. AreOpposite (bond_by k r0 (is_out_of_reach rcmax d) (length_of d) d) (bond_by k r0 (is_out_of_reach rcmax d) n e) in
    subst by_far (sym (reach-opposite rcmax d e l)) (subst by_length (sym (length-opposite d e l)) (bond_by-opposite k r0 (is_out_of_reach rcmax d) (length_of d) d e h))
