-- What the crates above cite of rounding: it exists, it is unique, it is odd, and how large it is.
use Rattle.std.proofs.Common.{◌≡◌, ◌+◌, ◌-◌, ◌*◌, ◌/◌, ◌%◌, ◌^◌, ◌<◌, ◌≤◌, true, false, ℕ, ℤ, zero, suc, pos, negsuc, neg_ℤ, ◌-ℤ◌, ◌*ℤ◌, ◌+ℤ◌, ◌<ℤ◌, unsigned_abs, arith, refl, sym, ap, ◌∙◌, subst}
use Rattle.std.specs.Int.{is_negative}
use Rattle.std.proofs.lemmas.Int.{ints}
use Rattle.std.proofs.lemmas.Nat.{mul-le, pow_pos, one_shl, pow_below}
use Rattle.std.proofs.Math.IntN.{neg_ℤ-neg_ℤ, zero-*ℤ}
use Rattle.std.proofs.Math.Nat.{div-mul-le_self, lt-div-mul-add, pow-suc}
use Rattle.fx_num.specs.Rounding.{nearest_of, with_sign, div_rounded, RoundsTo, IsNearest}

-- there is one, for a divisor above 0
pub nearest_rounds : (n d : ℕ) → 0 < d → RoundsTo n d (nearest_of n d)
unfolding nearest_of
nearest_rounds n d some =
    let m : ℕ = 2 * n + d in
    let high : m / (2 * d) * (2 * d) ≤ m = div-mul-le_self m (2 * d) in
    let low : m < m / (2 * d) * (2 * d) + 2 * d = lt-div-mul-add (omega arith) in
    record { at_most = omega arith; at_least = omega arith }

-- and only one
pub same_rounded : (n d q r : ℕ) → RoundsTo n d q → RoundsTo n d r → q ≡ r
same_rounded n d q r a b = grind arith

pub rounded_is : (n d q : ℕ) → 0 < d → RoundsTo n d q → q ≡ nearest_of n d
rounded_is n d q some r = same_rounded n d q (nearest_of n d) r (nearest_rounds n d some)

-- its size
rounds_below : (n d m q : ℕ) → n ≤ m * d → RoundsTo n d q → q ≤ m
rounds_below n d m q low r = grind arith

pub nearest_of-le : (n d m : ℕ) → 0 < d → n ≤ m * d → nearest_of n d ≤ m
nearest_of-le n d m some low = rounds_below n d m (nearest_of n d) low (nearest_rounds n d some)

pub nearest_of-le_self : (n d : ℕ) → 0 < d → nearest_of n d ≤ n
nearest_of-le_self n d some = nearest_of-le n d n some (grind arith)

-- a magnitude shifted with its correction
shifted : (n p d : ℕ) → 0 < p → d ≡ p * 2 → RoundsTo n d ((n + p) / d)
shifted n p d some double =
    let high : (n + p) / d * d ≤ n + p = div-mul-le_self (n + p) d in
    let low : n + p < (n + p) / d * d + d = lt-div-mul-add (omega arith) in
    record { at_most = omega arith; at_least = omega arith }

pub nearest_of-pow : (n k : ℕ) → (n + 2 ^ k) / 2 ^ suc k ≡ nearest_of n (2 ^ suc k)
nearest_of-pow n k = rounded_is n (2 ^ suc k) _ (pow_pos (suc k)) (shifted n (2 ^ k) (2 ^ suc k) (pow_pos k) (pow-suc 2 k))

-- a fraction may be extended
extended : (n d q k : ℕ) → 0 < k → RoundsTo n d q → RoundsTo (n * k) (d * k) q
extended n d q k more r =
    let high : 2 * (q * d) * k ≤ (2 * n + d) * k = mul-le (2 * (q * d)) k (2 * n + d) k r.at_most (omega arith) in
    let low : (2 * n + 1) * k ≤ (2 * (q * d) + d) * k = mul-le (2 * n + 1) k (2 * (q * d) + d) k (omega arith) (omega arith) in
    record { at_most = omega arith; at_least = omega arith }

pub nearest_of-extend : (n d k : ℕ) → 0 < d → 0 < k → nearest_of (n * k) (d * k) ≡ nearest_of n d
nearest_of-extend n d k some more =
    let apart : 0 < d * k = grind arith in
    sym (rounded_is (n * k) (d * k) (nearest_of n d) apart (extended n d (nearest_of n d) k more (nearest_rounds n d some)))

-- a whole quotient is exact
pub nearest_of-mul : (n d : ℕ) → 0 < d → nearest_of (n * d) d ≡ n
nearest_of-mul n d some = sym (rounded_is (n * d) d n some record { at_most = omega arith; at_least = omega arith })

pub neg_ℤ-*ℤ : (q b : ℤ) → neg_ℤ q *ℤ b ≡ neg_ℤ (q *ℤ b)
neg_ℤ-*ℤ (pos zero) b = rw zero-*ℤ refl
neg_ℤ-*ℤ (pos (suc n)) (pos m) = refl
neg_ℤ-*ℤ (pos (suc n)) (negsuc m) = sym (neg_ℤ-neg_ℤ (pos (suc n * suc m)))
neg_ℤ-*ℤ (negsuc n) (pos m) = sym (neg_ℤ-neg_ℤ (pos (suc n * m)))
neg_ℤ-*ℤ (negsuc n) (negsuc m) = refl

-- the nearest of a number that is not negative
too_far : (n d q p : ℕ) → 0 < d → RoundsTo n d q → 2 * (p * d) ≤ 2 * n + d → p ≤ q
too_far n d q p some r close = grind arith

nearest_pos_away : (n d q : ℕ) → 0 < d → RoundsTo n d q → (p : ℤ) → 2 * unsigned_abs (pos n -ℤ p *ℤ pos d) ≤ d → unsigned_abs p ≤ q
nearest_pos_away n d q some r (pos p) close = too_far n d q p some r (omega (arith, ints))
nearest_pos_away n d q some r (negsuc p) close =
    let whole : d ≤ suc p * d = grind arith in
    absurd (omega (arith, ints))

pub nearest_pos : (n d q : ℕ) → 0 < d → RoundsTo n d q → IsNearest (pos n) (pos d) (pos q)
nearest_pos n d q some r =
    let high : 2 * (q * d) ≤ 2 * n + d = r.at_most in
    let low : 2 * n < 2 * (q * d) + d = r.at_least in
    record { near = omega (arith, ints); away = nearest_pos_away n d q some r }

-- rounding is odd
unsigned_abs-neg : (a : ℤ) → unsigned_abs (neg_ℤ a) ≡ unsigned_abs a
unsigned_abs-neg a = omega (arith, ints)

across : (a b p : ℤ) → unsigned_abs (neg_ℤ a -ℤ p *ℤ b) ≡ unsigned_abs (a -ℤ neg_ℤ p *ℤ b)
across a b p = rw neg_ℤ-*ℤ (omega (arith, ints))

pub IsNearest-neg : (a b q : ℤ) → IsNearest a b q → IsNearest (neg_ℤ a) b (neg_ℤ q)
IsNearest-neg a b q h = record {
  near = omega (arith, ints, h.near, across a b (neg_ℤ q), ap (λ p. unsigned_abs (a -ℤ p *ℤ b)) (neg_ℤ-neg_ℤ q));
  away = λ p close. omega (arith, h.away (neg_ℤ p) (omega (arith, across a b p)), unsigned_abs-neg q, unsigned_abs-neg p);
}

pub div_rounded_nearest : (a b : ℤ) → pos 0 <ℤ b → IsNearest a b (div_rounded a b)
unfolding div_rounded
div_rounded_nearest (pos n) (pos d) some =
    nearest_pos n d _ (omega (arith, ints)) (nearest_rounds n d (omega (arith, ints)))
div_rounded_nearest (negsuc n) (pos d) some =
    IsNearest-neg (pos (suc n)) (pos d) _ (nearest_pos (suc n) d _ (omega (arith, ints)) (nearest_rounds (suc n) d (omega (arith, ints))))
div_rounded_nearest a (negsuc d) some = absurd (omega (arith, ints))

-- there is only one
same_size : (a b q r : ℤ) → IsNearest a b q → IsNearest a b r → unsigned_abs q ≡ unsigned_abs r
same_size a b q r f g = omega (arith, f.away r g.near, g.away q f.near)

opposite : (a : ℤ) (d m n : ℕ) → 0 < d → m ≡ suc n → IsNearest a (pos d) (pos m) → IsNearest a (pos d) (negsuc n) → ⊥
opposite a d m n some e f g =
    let p : 2 * unsigned_abs (a -ℤ pos (m * d)) ≤ d = f.near in
    let q : 2 * unsigned_abs (a +ℤ pos (suc n * d)) ≤ d = omega (arith, ints, g.near) in
    let s : 2 * (m * d + suc n * d) ≤ 2 * d = omega (arith, ints) in
    grind arith

pub same_nearest : (a b q r : ℤ) → pos 0 <ℤ b → IsNearest a b q → IsNearest a b r → q ≡ r
same_nearest a (pos d) (pos m) (pos n) some f g = ap pos (same_size a (pos d) (pos m) (pos n) f g)
same_nearest a (pos d) (negsuc m) (negsuc n) some f g = omega (arith, ints, same_size a (pos d) (negsuc m) (negsuc n) f g)
same_nearest a (pos d) (pos m) (negsuc n) some f g = absurd (opposite a d m n (omega (arith, ints)) (same_size a (pos d) (pos m) (negsuc n) f g) f g)
same_nearest a (pos d) (negsuc m) (pos n) some f g = absurd (opposite a d n m (omega (arith, ints)) (same_size a (pos d) (pos n) (negsuc m) g f) g f)
same_nearest a (negsuc d) q r some f g = absurd (omega (arith, ints))

pub nearest_is : (a b q : ℤ) → pos 0 <ℤ b → IsNearest a b q → q ≡ div_rounded a b
nearest_is a b q some near = same_nearest a b q (div_rounded a b) some near (div_rounded_nearest a b some)

pub nearest_of-zero : (d : ℕ) → nearest_of 0 d ≡ 0
unfolding nearest_of
nearest_of-zero zero = refl
nearest_of-zero (suc d) = omega (arith, nearest_of-le 0 (suc d) 0 (omega arith) (omega arith))

pub div_rounded-neg : (a b : ℤ) → div_rounded (neg_ℤ a) b ≡ neg_ℤ (div_rounded a b)
unfolding div_rounded
div_rounded-neg (pos zero) b = let e = nearest_of-zero (unsigned_abs b) in rw e refl
div_rounded-neg (pos (suc n)) b = refl
div_rounded-neg (negsuc n) b = sym (neg_ℤ-neg_ℤ (pos (nearest_of (suc n) (unsigned_abs b))))

-- sign and magnitude apart
pub div_rounded-signed : (a b : ℤ) → with_sign (is_negative a) (nearest_of (unsigned_abs a) (unsigned_abs b)) ≡ div_rounded a b
unfolding div_rounded
div_rounded-signed (pos n) b = let e : is_negative (pos n) ≡ false = grind (arith, ints) in ap (λ s. with_sign s (nearest_of n (unsigned_abs b))) e
div_rounded-signed (negsuc n) b = let e : is_negative (negsuc n) ≡ true = grind (arith, ints) in ap (λ s. with_sign s (nearest_of (suc n) (unsigned_abs b))) e

-- size
pub unsigned_abs-div_rounded : (a b : ℤ) → unsigned_abs (div_rounded a b) ≡ nearest_of (unsigned_abs a) (unsigned_abs b)
unfolding div_rounded
unsigned_abs-div_rounded (pos n) b = refl
unsigned_abs-div_rounded (negsuc n) b = unsigned_abs-neg (pos (nearest_of (suc n) (unsigned_abs b)))

-- the shift as code writes it
pub half_is : (k : ℕ) → (k ≡ 0 → ⊥) → k ≤ 100 → 1 * 2 ^ (k - 1) % 2 ^ 128 ≡ 2 ^ (k - 1)
half_is k some few = one_shl (k - 1) 128 (omega arith)

pub nearest_of-shift : (a k : ℕ) → (k ≡ 0 → ⊥) → k ≤ 100 → (a + 1 * 2 ^ (k - 1) % 2 ^ 128) / 2 ^ k ≡ nearest_of a (2 ^ k)
nearest_of-shift a k some few =
    let h : 1 * 2 ^ (k - 1) % 2 ^ 128 ≡ 2 ^ (k - 1) = half_is k some few in
    let e : suc (k - 1) ≡ k = omega arith in
    let shifts : (a + 2 ^ (k - 1)) / 2 ^ k ≡ nearest_of a (2 ^ k) = subst (λ (m : ℕ). (a + 2 ^ (k - 1)) / 2 ^ m ≡ nearest_of a (2 ^ m)) e (nearest_of-pow a (k - 1)) in
    ap (λ (x : ℕ). (a + x) / 2 ^ k) h ∙ shifts

pub half_small : (k : ℕ) → (k ≡ 0 → ⊥) → k ≤ 100 → 1 * 2 ^ (k - 1) % 2 ^ 128 < 2 ^ 126
half_small k some few = let h = half_is k some few in omega (arith, h, pow_below (k - 1) 126 (omega arith))
