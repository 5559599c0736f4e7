-- The nearest roots exist, and each is the only one.
use Rattle.std.proofs.Common.{◌≡◌, ◌≢◌, ◌+◌, ◌-◌, ◌*◌, ◌/◌, ◌<◌, ◌≤◌, cond, nat_le, true, false, ℕ, zero, suc, arith, refl, sym, ◌∙◌, subst, ⊎_elim, Bool}
use Rattle.std.proofs.lemmas.Nat.{mul-le}
use Rattle.std.proofs.lemmas.Bool.{cases_lt, leb-true, leb-false}
use Rattle.std.proofs.Math.Nat.{div-mul-le_self, lt-div-mul-add}
use Rattle.fx_num.specs.Roots.{square, cube, IsNearestRoot, with_digit, whole_root, root_of, sqrt_of, cbrt_of}

-- what the two powers have in common
pub record IsPower (power : ℕ → ℕ) : Type 0 where
  pub of_zero : power 0 ≡ 0
  pub of_one : 0 < power 1
  pub of_two : 1 < power 2
  pub doubled : (x : ℕ) → power (2 * x) ≡ power 2 * power x
  pub grows : (x y : ℕ) → x ≤ y → power x ≤ power y
  pub no_tie : (x a : ℕ) → power (2 * x + 1) ≢ power 2 * a

-- r is the greatest whole number whose power is at most a
pub record IsWholeRoot (power : ℕ → ℕ) (a r : ℕ) : Type 0 where
  pub at_most : power r ≤ a
  pub below : a < power (r + 1)

pub square_is : IsPower square
square_is = record {
  of_zero = refl;
  of_one = omega arith;
  of_two = omega arith;
  doubled = λ x. omega arith;
  grows = λ x y le. mul-le x x y y le le;
  no_tie = λ x a tie. omega (arith, tie);
}

pub cube_is : IsPower cube
cube_is = record {
  of_zero = refl;
  of_one = omega arith;
  of_two = omega arith;
  doubled = λ x. omega arith;
  grows = λ x y le. mul-le (x * x) x (y * y) y (mul-le x x y y le le) le;
  no_tie = λ x a tie. omega (arith, tie);
}

-- a digit more
with_digit_is : (power : ℕ → ℕ) (a r : ℕ) → power (2 * r) ≤ a → a < power (2 * (r + 1)) → IsWholeRoot power a (with_digit power a r)
with_digit_is power a r low high =
    let even : 2 * (r + 1) ≡ 2 * r + 1 + 1 = omega arith in
    let above : a < power (2 * r + 1 + 1) = subst (λ (x : ℕ). a < power x) even high in
    by_digit (nat_le (power (2 * r + 1)) a) refl above
  where
    by_digit : (b : Bool) → nat_le (power (2 * r + 1)) a ≡ b → a < power (2 * r + 1 + 1) → IsWholeRoot power a (cond b (2 * r + 1) (2 * r))
    by_digit true is above = record { at_most = leb-true (power (2 * r + 1)) a is; below = above }
    by_digit false is above = record { at_most = low; below = leb-false (power (2 * r + 1)) a is }

digit_more : (power : ℕ → ℕ) → IsPower power → (a r : ℕ) → IsWholeRoot power (a / power 2) r → IsWholeRoot power a (with_digit power a r)
digit_more power p a r whole =
    let two : 1 < power 2 = p.of_two in
    let cut : a / power 2 * power 2 ≤ a = div-mul-le_self a (power 2) in
    let rest : a < a / power 2 * power 2 + power 2 = lt-div-mul-add (omega arith) in
    let less : power r * power 2 ≤ a / power 2 * power 2 = mul-le (power r) (power 2) (a / power 2) (power 2) whole.at_most (omega arith) in
    let more : (a / power 2 + 1) * power 2 ≤ power (r + 1) * power 2 = mul-le (a / power 2 + 1) (power 2) (power (r + 1)) (power 2) (omega (arith, whole.below)) (omega arith) in
    with_digit_is power a r (rw (p.doubled r) (omega arith)) (rw (p.doubled (r + 1)) (omega arith))

pub whole_root_is : (power : ℕ → ℕ) → IsPower power → (digits a : ℕ) → a ≤ digits → IsWholeRoot power a (whole_root power digits a)
whole_root_is power p digits zero enough = record { at_most = rw (p.of_zero) (omega arith); below = p.of_one }
whole_root_is power p zero (suc n) enough = absurd (omega arith)
whole_root_is power p (suc digits) (suc n) enough =
    let two : 1 < power 2 = p.of_two in
    let cut : suc n / power 2 * power 2 ≤ suc n = div-mul-le_self (suc n) (power 2) in
    let half : suc n / power 2 * 2 ≤ suc n / power 2 * power 2 = mul-le (suc n / power 2) 2 (suc n / power 2) (power 2) (omega arith) two in
    digit_more power p (suc n) (whole_root power digits (suc n / power 2)) (whole_root_is power p digits (suc n / power 2) (omega arith))

below_from_ne : (x y : ℕ) → x ≤ y → x ≢ y → x < y
below_from_ne x y le ne = ⊎_elim (λ lt. lt) (λ ge. absurd (ne (omega arith))) (cases_lt x y)

whole_of_zero : (power : ℕ → ℕ) → IsPower power → (r : ℕ) → IsWholeRoot power (power 2 * 0) r → r ≡ 0
whole_of_zero power p zero whole = refl
whole_of_zero power p (suc r) whole =
    let one : power 1 ≤ power (suc r) = p.grows 1 (suc r) (omega arith) in
    absurd (omega (arith, p.of_one, whole.at_most))

-- half of it, rounded, is nearest
half_root : (power : ℕ → ℕ) → IsPower power → (a r q : ℕ) → IsWholeRoot power (power 2 * a) r → 2 * q ≤ r + 1 → r ≤ 2 * q → IsNearestRoot power a q
half_root power p zero r q whole low high =
    let two : 1 < power 2 = p.of_two in
    let none : r ≡ 0 = whole_of_zero power p r whole in
    record { of_zero = λ _. omega arith; at_least = λ some. absurd (omega arith); at_most = λ some. absurd (omega arith) }
half_root power p (suc n) r zero whole low high =
    let none : r ≡ 0 = omega arith in
    let one : power (r + 1) ≤ power 2 = p.grows (r + 1) 2 (omega arith) in
    let all : power 2 * 1 ≤ power 2 * suc n = mul-le (power 2) 1 (power 2) (suc n) (omega arith) (omega arith) in
    absurd (omega (arith, whole.below))
half_root power p (suc n) r (suc m) whole low high =
    let less : power (2 * m + 1) ≤ power r = p.grows (2 * m + 1) r (omega arith) in
    let more : power (r + 1) ≤ power (2 * suc m + 1) = p.grows (r + 1) (2 * suc m + 1) (omega arith) in
    let odd : 2 * suc m - 1 ≡ 2 * m + 1 = omega arith in
    let tie : power (2 * m + 1) ≢ power 2 * suc n = p.no_tie m (suc n) in
    let apart : power (2 * m + 1) < power 2 * suc n = below_from_ne (power (2 * m + 1)) (power 2 * suc n) (omega (arith, whole.at_most)) tie in
    record { of_zero = λ none. absurd (omega arith); at_least = λ some. rw odd apart; at_most = λ some. omega (arith, whole.below) }

pub root_of_is : (power : ℕ → ℕ) → IsPower power → (a : ℕ) → IsNearestRoot power a (root_of power a)
root_of_is power p a =
    let r = whole_root power (power 2 * a) (power 2 * a) in
    half_root power p a r ((r + 1) / 2) (whole_root_is power p (power 2 * a) (power 2 * a) (omega arith)) (omega arith) (omega arith)

-- and there is no other
not_below : (power : ℕ → ℕ) → IsPower power → (a p q : ℕ) → 0 < a → IsNearestRoot power a p → IsNearestRoot power a q → q ≤ p
not_below power is a p q some one other =
    ⊎_elim (λ less. let h : power (2 * p + 1) ≤ power (2 * q - 1) = is.grows (2 * p + 1) (2 * q - 1) (omega arith) in absurd (omega (arith, one.at_most some, other.at_least some))) (λ le. le) (cases_lt p q)

pub same_root : (power : ℕ → ℕ) → IsPower power → (a p q : ℕ) → IsNearestRoot power a p → IsNearestRoot power a q → p ≡ q
same_root power is zero p q one other = one.of_zero refl ∙ sym (other.of_zero refl)
same_root power is (suc n) p q one other =
    let a = not_below power is (suc n) p q (omega arith) one other in
    let b = not_below power is (suc n) q p (omega arith) other one in
    omega arith

pub sqrt_of_is : (a : ℕ) → IsNearestRoot square a (sqrt_of a)
unfolding sqrt_of
sqrt_of_is a = root_of_is square square_is a

pub sqrt_is : (a q : ℕ) → IsNearestRoot square a q → q ≡ sqrt_of a
sqrt_is a q nearest = same_root square square_is a q (sqrt_of a) nearest (sqrt_of_is a)

pub cbrt_of_is : (a : ℕ) → IsNearestRoot cube a (cbrt_of a)
unfolding cbrt_of
cbrt_of_is a = root_of_is cube cube_is a

pub cbrt_is : (a q : ℕ) → IsNearestRoot cube a q → q ≡ cbrt_of a
cbrt_is a q nearest = same_root cube cube_is a q (cbrt_of a) nearest (cbrt_of_is a)

-- from the greatest whole number whose square is at most a
pub sqrt_above : (a r : ℕ) → r * r ≤ a → a < (r + 1) * (r + 1) → r < a - r * r → IsNearestRoot square a (r + 1)
sqrt_above a r low high middle =
    let odd : 2 * (r + 1) - 1 ≡ 2 * r + 1 = omega arith in
    record { of_zero = λ none. absurd (omega arith); at_least = λ some. rw odd (omega arith); at_most = λ some. omega arith }

pub sqrt_below : (a r : ℕ) → r * r ≤ a → a < (r + 1) * (r + 1) → a - r * r ≤ r → IsNearestRoot square a r
sqrt_below a zero low high middle = record { of_zero = λ none. refl; at_least = λ some. omega arith; at_most = λ some. omega arith }
sqrt_below a (suc r) low high middle =
    let odd : 2 * suc r - 1 ≡ 2 * r + 1 = omega arith in
    record { of_zero = λ none. absurd (omega arith); at_least = λ some. rw odd (omega arith); at_most = λ some. omega arith }

-- from the greatest whole number whose cube is at most a
pub cbrt_above : (a r : ℕ) → r * r * r ≤ a → a < (r + 1) * (r + 1) * (r + 1) → 12 * r * r + 6 * r + 1 < 8 * (a - r * r * r) → IsNearestRoot cube a (r + 1)
cbrt_above a r low high middle =
    let odd : 2 * (r + 1) - 1 ≡ 2 * r + 1 = omega arith in
    record { of_zero = λ none. absurd (omega arith); at_least = λ some. rw odd (omega arith); at_most = λ some. omega arith }

pub cbrt_below : (a r : ℕ) → r * r * r ≤ a → a < (r + 1) * (r + 1) * (r + 1) → 8 * (a - r * r * r) ≤ 12 * r * r + 6 * r + 1 → IsNearestRoot cube a r
cbrt_below a zero low high middle = record { of_zero = λ none. refl; at_least = λ some. omega arith; at_most = λ some. omega arith }
cbrt_below a (suc r) low high middle =
    let odd : 2 * suc r - 1 ≡ 2 * r + 1 = omega arith in
    record { of_zero = λ none. absurd (omega arith); at_least = λ some. rw odd (omega arith); at_most = λ some. omega arith }
