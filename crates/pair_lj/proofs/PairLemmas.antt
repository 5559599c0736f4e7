-- What the crates above cite of the pair term: it is odd, a whole weight changes nothing, and it is bounded.
use Rattle.std.proofs.Common.{◌≡◌, ◌*◌, ◌^◌, ◌≤◌, ◌||◌, Bool, true, false, cond, nat_lt, nat_le, ℕ, ℤ, suc, pos, negsuc, neg_ℤ, ◌+ℤ◌, ◌-ℤ◌, ◌*ℤ◌, unsigned_abs, Option, Some, None, Result, Ok, Err, IfOk, IfSome, List, refl, sym, ap, subst, ◌∙◌, arith}
use Rattle.std.proofs.Math.IntN.{neg_ℤ-neg_ℤ, *ℤ_comm}
use Rattle.std.proofs.lemmas.Int.{ints, unsigned_abs-mul}
use Rattle.std.proofs.lemmas.Nat.{mul-le}
use Rattle.std.proofs.lemmas.Bool.Decides.{nat_tests}
use Rattle.fx_num.specs.Rounding.{nearest_of, shr_rounded}
use Rattle.fx_num.proofs.RoundingLemmas.{neg_ℤ-*ℤ, div_rounded-neg, unsigned_abs-div_rounded, nearest_of-mul, nearest_of-le}
use Rattle.box_geo.specs.declared.term.Term.{Term}
use Rattle.box_geo.specs.Sides.{x_of, y_of, z_of, length2, IsOpposite}
use Rattle.pair_lj.specs.declared.close.Close.{Close}
use Rattle.box_geo.specs.Terms.{dot, is_too_strong, IsModerate}
use Rattle.pair_lj.specs.PairTerm.{strength, energy_at, force_along, is_too_near, weighted_term, pair_term, HasModerateForce, AreOpposite}
use Rattle.pair_lj.proofs.SignLemmas.{weighted_is}
use Rattle.pair_lj.proofs.Cases.{nearest_of-mono}

-- signs in products
*ℤ-neg_ℤ : (c x : ℤ) → c *ℤ neg_ℤ x ≡ neg_ℤ (c *ℤ x)
*ℤ-neg_ℤ c x = *ℤ_comm c (neg_ℤ x) ∙ neg_ℤ-*ℤ x c ∙ ap neg_ℤ (*ℤ_comm x c)

both_turned : (x f : ℤ) → neg_ℤ x *ℤ neg_ℤ f ≡ x *ℤ f
both_turned x f = neg_ℤ-*ℤ x (neg_ℤ f) ∙ ap neg_ℤ (*ℤ-neg_ℤ x f) ∙ neg_ℤ-neg_ℤ (x *ℤ f)

unsigned_abs-neg : (a : ℤ) → unsigned_abs (neg_ℤ a) ≡ unsigned_abs a
unsigned_abs-neg a = omega (arith, ints)

square_of : (x y : ℤ) → y ≡ neg_ℤ x → unsigned_abs y * unsigned_abs y ≡ unsigned_abs x * unsigned_abs x
square_of x y e = let h : unsigned_abs y ≡ unsigned_abs x = ap unsigned_abs e ∙ unsigned_abs-neg x in ap (λ (n : ℕ). n * n) h

-- opposite displacements are of one length
pub length2-opposite : (d e : List ℤ) → IsOpposite d e → length2 e ≡ length2 d
length2-opposite d e h =
    let x = square_of (x_of d) (x_of e) h.0 in
    let y = square_of (y_of d) (y_of e) h.1 in
    let z = square_of (z_of d) (z_of e) h.2 in
    omega (arith, x, y, z)

component-opposite : (c x y : ℤ) → y ≡ neg_ℤ x → shr_rounded (c *ℤ y) 32 ≡ neg_ℤ (shr_rounded (c *ℤ x) 32)
component-opposite c x y e = ap (λ (v : ℤ). shr_rounded (c *ℤ v) 32) e ∙ ap (λ (v : ℤ). shr_rounded v 32) (*ℤ-neg_ℤ c x) ∙ div_rounded-neg (c *ℤ x) (pos (2 ^ 32))

-- the forces are opposite
pub force_along-opposite : (c : ℤ) (d e : List ℤ) → IsOpposite d e → IsOpposite (force_along c d) (force_along c e)
unfolding force_along
force_along-opposite c d e h =
    (component-opposite c (x_of d) (x_of e) h.0, component-opposite c (y_of d) (y_of e) h.1, component-opposite c (z_of d) (z_of e) h.2)

product-opposite : (x y f g : ℤ) → y ≡ neg_ℤ x → g ≡ neg_ℤ f → y *ℤ g ≡ x *ℤ f
product-opposite x y f g ex ef = ap (λ (v : ℤ). v *ℤ g) ex ∙ ap (λ (v : ℤ). neg_ℤ x *ℤ v) ef ∙ both_turned x f

-- the products of displacement and force are equal
pub dot-opposite : (d e f g : List ℤ) → IsOpposite d e → IsOpposite f g → dot e g ≡ dot d f
dot-opposite d e f g h k =
    ap (λ (v : ℤ). v +ℤ y_of e *ℤ y_of g +ℤ z_of e *ℤ z_of g) (product-opposite (x_of d) (x_of e) (x_of f) (x_of g) h.0 k.0)
    ∙ ap (λ (v : ℤ). x_of d *ℤ x_of f +ℤ v +ℤ z_of e *ℤ z_of g) (product-opposite (y_of d) (y_of e) (y_of f) (y_of g) h.1 k.1)
    ∙ ap (λ (v : ℤ). x_of d *ℤ x_of f +ℤ y_of d *ℤ y_of f +ℤ v) (product-opposite (z_of d) (z_of e) (z_of f) (z_of g) h.2 k.2)

test_of : (f g : ℤ) → g ≡ neg_ℤ f → nat_lt (2 ^ 42) (unsigned_abs g) ≡ nat_lt (2 ^ 42) (unsigned_abs f)
test_of f g e = ap (nat_lt (2 ^ 42)) (ap unsigned_abs e ∙ unsigned_abs-neg f)

is_too_strong-opposite : (f g : List ℤ) → IsOpposite f g → is_too_strong g ≡ is_too_strong f
is_too_strong-opposite f g h =
    ap (λ (b : Bool). b || nat_lt (2 ^ 42) (unsigned_abs (y_of g)) || nat_lt (2 ^ 42) (unsigned_abs (z_of g))) (test_of (x_of f) (x_of g) h.0)
    ∙ ap (λ (b : Bool). nat_lt (2 ^ 42) (unsigned_abs (x_of f)) || b || nat_lt (2 ^ 42) (unsigned_abs (z_of g))) (test_of (y_of f) (y_of g) h.1)
    ∙ ap (λ (b : Bool). nat_lt (2 ^ 42) (unsigned_abs (x_of f)) || nat_lt (2 ^ 42) (unsigned_abs (y_of f)) || b) (test_of (z_of f) (z_of g) h.2)

-- the outcome by its three tests
abbrev outcome : Bool → Bool → Bool → Term → Result (Option Term) Close
outcome far near strong t = cond far (Ok None) (cond near (Err record {}) (cond strong (Err record {}) (Ok (Some t))))

outcome-opposite : (far near strong : Bool) (s t : Term) → IsOpposite s.f t.f → t.energy ≡ s.energy → t.virial ≡ s.virial → AreOpposite (outcome far near strong s) (outcome far near strong t)
outcome-opposite true near strong s t f e v = tt
outcome-opposite false true strong s t f e v = tt
outcome-opposite false false true s t f e v = tt
outcome-opposite false false false s t f e v = (f, e, v)

-- the pair term with the square of the distance apart
abbrev pair_at : ℕ → ℕ → ℕ → ℤ → ℕ → ℕ → List ℤ → Result (Option Term) Close
pair_at eps sigma cut base weight r2 d =
    outcome (nat_le (cut * cut) r2) (is_too_near sigma r2) (is_too_strong (force_along (strength eps sigma r2) d))
    (weighted_term (strength eps sigma r2) (energy_at eps sigma r2 -ℤ base) weight d)

pair_term_is : (eps sigma cut : ℕ) (base : ℤ) (weight : ℕ) (d : List ℤ) → pair_term eps sigma cut base weight d ≡ pair_at eps sigma cut base weight (length2 d) d
unfolding pair_term
pair_term_is eps sigma cut base weight d = refl

weighted_term-opposite : (c e : ℤ) (weight : ℕ) (d g : List ℤ) → IsOpposite d g → IsOpposite (weighted_term c e weight d).f (weighted_term c e weight g).f × ((weighted_term c e weight g).energy ≡ (weighted_term c e weight d).energy) × ((weighted_term c e weight g).virial ≡ (weighted_term c e weight d).virial)
unfolding weighted_term
weighted_term-opposite c e weight d g h =
    let f : IsOpposite (force_along (shr_rounded (c *ℤ pos weight) 24) d) (force_along (shr_rounded (c *ℤ pos weight) 24) g) = force_along-opposite (shr_rounded (c *ℤ pos weight) 24) d g h in
    (f, refl, dot-opposite d g (force_along (shr_rounded (c *ℤ pos weight) 24) d) (force_along (shr_rounded (c *ℤ pos weight) 24) g) h f)

pair_at-opposite : (eps sigma cut : ℕ) (base : ℤ) (weight r2 : ℕ) (d e : List ℤ) → IsOpposite d e → AreOpposite (pair_at eps sigma cut base weight r2 d) (pair_at eps sigma cut base weight r2 e)
pair_at-opposite eps sigma cut base weight r2 d e h =
    let c : ℤ = strength eps sigma r2 in
    let v : ℤ = energy_at eps sigma r2 -ℤ base in
    let same : is_too_strong (force_along c e) ≡ is_too_strong (force_along c d) = is_too_strong-opposite (force_along c d) (force_along c e) (force_along-opposite c d e h) in
    let w = weighted_term-opposite c v weight d e h in
    let on : Bool → Type 0 = λ b. AreOpposite (pair_at eps sigma cut base weight r2 d) (outcome (nat_le (cut * cut) r2) (is_too_near sigma r2) b (weighted_term c v weight e)) in
    subst on (sym same) (outcome-opposite (nat_le (cut * cut) r2) (is_too_near sigma r2) (is_too_strong (force_along c d)) (weighted_term c v weight d) (weighted_term c v weight e) w.0 w.1 w.2)

pub pair_term-opposite : (eps sigma cut weight : ℕ) (base : ℤ) (d e : List ℤ) → IsOpposite d e → AreOpposite (pair_term eps sigma cut base weight d) (pair_term eps sigma cut base weight e)
unfolding pair_term
pair_term-opposite eps sigma cut weight base d e h =
    let on : ℕ → Type 0 = λ n. AreOpposite (pair_at eps sigma cut base weight (length2 d) d) (pair_at eps sigma cut base weight n e) in
    subst on (sym (length2-opposite d e h)) (pair_at-opposite eps sigma cut base weight (length2 d) d e h)

-- a whole weight
whole : (c : ℤ) → shr_rounded (c *ℤ pos (2 ^ 24)) 24 ≡ c
whole (pos n) = weighted_is false n (2 ^ 24) 24 ∙ ap pos (nearest_of-mul n (2 ^ 24) (omega arith))
whole (negsuc n) = weighted_is true (suc n) (2 ^ 24) 24 ∙ ap (λ (m : ℕ). neg_ℤ (pos m)) (nearest_of-mul (suc n) (2 ^ 24) (omega arith))

pub weighted_term-whole : (c e : ℤ) (d : List ℤ) → weighted_term c e (2 ^ 24) d ≡ record { f = force_along c d; energy = e; virial = dot d (force_along c d) }
unfolding weighted_term
weighted_term-whole c e d =
    let by_strength : ℤ → Term = λ v. record { f = force_along v d; energy = shr_rounded (e *ℤ pos (2 ^ 24)) 24; virial = dot d (force_along v d) } in
    let by_energy : ℤ → Term = λ v. record { f = force_along c d; energy = v; virial = dot d (force_along c d) } in
    ap by_strength (whole c) ∙ ap by_energy (whole e)

-- bounds
lesser : (c : ℤ) (weight : ℕ) → weight ≤ 2 ^ 24 → unsigned_abs (shr_rounded (c *ℤ pos weight) 24) ≤ unsigned_abs c
lesser c weight low =
    let size : unsigned_abs (shr_rounded (c *ℤ pos weight) 24) ≡ nearest_of (unsigned_abs (c *ℤ pos weight)) (2 ^ 24) = unsigned_abs-div_rounded (c *ℤ pos weight) (pos (2 ^ 24)) in
    let product : unsigned_abs (c *ℤ pos weight) ≡ unsigned_abs c * weight = unsigned_abs-mul c (pos weight) in
    let bound : unsigned_abs c * weight ≤ unsigned_abs c * 2 ^ 24 = mul-le (unsigned_abs c) weight (unsigned_abs c) (2 ^ 24) (omega arith) low in
    let h : nearest_of (unsigned_abs (c *ℤ pos weight)) (2 ^ 24) ≤ unsigned_abs c = nearest_of-le (unsigned_abs (c *ℤ pos weight)) (2 ^ 24) (unsigned_abs c) (omega arith) (omega arith) in
    omega arith

component-le : (b c x : ℤ) → unsigned_abs b ≤ unsigned_abs c → unsigned_abs (shr_rounded (b *ℤ x) 32) ≤ unsigned_abs (shr_rounded (c *ℤ x) 32)
component-le b c x low =
    let eb : unsigned_abs (shr_rounded (b *ℤ x) 32) ≡ nearest_of (unsigned_abs (b *ℤ x)) (2 ^ 32) = unsigned_abs-div_rounded (b *ℤ x) (pos (2 ^ 32)) in
    let ec : unsigned_abs (shr_rounded (c *ℤ x) 32) ≡ nearest_of (unsigned_abs (c *ℤ x)) (2 ^ 32) = unsigned_abs-div_rounded (c *ℤ x) (pos (2 ^ 32)) in
    let pb : unsigned_abs (b *ℤ x) ≡ unsigned_abs b * unsigned_abs x = unsigned_abs-mul b x in
    let pc : unsigned_abs (c *ℤ x) ≡ unsigned_abs c * unsigned_abs x = unsigned_abs-mul c x in
    let bound : unsigned_abs b * unsigned_abs x ≤ unsigned_abs c * unsigned_abs x = mul-le (unsigned_abs b) (unsigned_abs x) (unsigned_abs c) (unsigned_abs x) low (omega arith) in
    let h : nearest_of (unsigned_abs (b *ℤ x)) (2 ^ 32) ≤ nearest_of (unsigned_abs (c *ℤ x)) (2 ^ 32) = nearest_of-mono (unsigned_abs (b *ℤ x)) (unsigned_abs (c *ℤ x)) (omega arith) in
    omega arith

all_mild : (a b c : ℕ) → (nat_lt (2 ^ 42) a || nat_lt (2 ^ 42) b || nat_lt (2 ^ 42) c) ≡ false → (a ≤ 2 ^ 42) × (b ≤ 2 ^ 42) × (c ≤ 2 ^ 42)
all_mild a b c mild = (grind (arith, nat_tests), grind (arith, nat_tests), grind (arith, nat_tests))

-- a weighted force is moderate where the force is
pub force_along-weighted : (c : ℤ) (weight : ℕ) (d : List ℤ) → weight ≤ 2 ^ 24 → is_too_strong (force_along c d) ≡ false → IsModerate (force_along (shr_rounded (c *ℤ pos weight) 24) d)
unfolding force_along
force_along-weighted c weight d low mild =
    let b : ℤ = shr_rounded (c *ℤ pos weight) 24 in
    let less : unsigned_abs b ≤ unsigned_abs c = lesser c weight low in
    let h = all_mild (unsigned_abs (shr_rounded (c *ℤ x_of d) 32)) (unsigned_abs (shr_rounded (c *ℤ y_of d) 32)) (unsigned_abs (shr_rounded (c *ℤ z_of d) 32)) mild in
    let x : unsigned_abs (shr_rounded (b *ℤ x_of d) 32) ≤ unsigned_abs (shr_rounded (c *ℤ x_of d) 32) = component-le b c (x_of d) less in
    let y : unsigned_abs (shr_rounded (b *ℤ y_of d) 32) ≤ unsigned_abs (shr_rounded (c *ℤ y_of d) 32) = component-le b c (y_of d) less in
    let z : unsigned_abs (shr_rounded (b *ℤ z_of d) 32) ≤ unsigned_abs (shr_rounded (c *ℤ z_of d) 32) = component-le b c (z_of d) less in
    (omega (arith, h.0), omega (arith, h.1), omega (arith, h.2))

outcome-bounded : (far near strong : Bool) (t : Term) → (strong ≡ false → HasModerateForce t) → IfOk (outcome far near strong t) (λ o. IfSome o HasModerateForce)
outcome-bounded true near strong t h = tt
outcome-bounded false true strong t h = tt
outcome-bounded false false true t h = tt
outcome-bounded false false false t h = h refl

pub pair_term-bounded : (eps sigma cut weight : ℕ) (base : ℤ) (d : List ℤ) → weight ≤ 2 ^ 24 → IfOk (pair_term eps sigma cut base weight d) (λ o. IfSome o HasModerateForce)
unfolding pair_term weighted_term
pair_term-bounded eps sigma cut weight base d low =
    outcome-bounded (nat_le (cut * cut) (length2 d)) (is_too_near sigma (length2 d)) (is_too_strong (force_along (strength eps sigma (length2 d)) d))
    (weighted_term (strength eps sigma (length2 d)) (energy_at eps sigma (length2 d) -ℤ base) weight d)
    (λ mild. force_along-weighted (strength eps sigma (length2 d)) weight d low mild)
