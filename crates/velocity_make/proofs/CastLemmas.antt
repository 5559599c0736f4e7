-- Signed numbers as code hands them on, quotients among them, and how large a root is.
use Rattle.std.proofs.Common.{◌≡◌, ◌∙◌, ◌-◌, ◌*◌, ◌^◌, ◌<◌, ◌≤◌, ℕ, ℤ, pos, unsigned_abs, FitsSigned, to_z, of_z, w64, arith, ap, ⊎_elim}
use Rattle.std.specs.Int.{w128}
use Rattle.std.proofs.lemmas.Bool.{cases_lt}
use Rattle.std.proofs.lemmas.Int.{to_z-of_z, fits_signed_from_abs}
use Rattle.std.proofs.lemmas.Nat.{mul-le}
use Rattle.fx_num.specs.Rounding.{div_rounded}
use Rattle.fx_num.specs.Roots.{square, IsNearestRoot}
use Rattle.computes.proofs.QuotientLemmas.{quotient_bound}

pub same64 : (x : ℤ) → unsigned_abs x < 2 ^ 63 → to_z w64 (of_z w64 x) ≡ x
same64 x small = to_z-of_z w64 x (fits_signed_from_abs w64 x small)

pub same128 : (x : ℤ) → unsigned_abs x < 2 ^ 127 → to_z w128 (of_z w128 x) ≡ x
same128 x small = to_z-of_z w128 x (fits_signed_from_abs w128 x small)

pub kept64 : (x : ℤ) (m : ℕ) → unsigned_abs x ≤ m → m < 2 ^ 63 → unsigned_abs (to_z w64 (of_z w64 x)) ≤ m
kept64 x m low small = rw (same64 x (omega (arith, low, small))) low

-- a quotient that is read as a number of 64 bits
pub record IsRead (r q : ℤ) (m : ℕ) : Type 0 where
  pub fits : FitsSigned w64 (to_z w128 (of_z w128 r))
  pub is : to_z w64 (of_z w64 (to_z w128 (of_z w128 r))) ≡ q
  pub bound : unsigned_abs (to_z w64 (of_z w64 (to_z w128 (of_z w128 r)))) ≤ m

pub quotient_read : (r a b e : ℤ) (d m : ℕ) → r ≡ div_rounded b e → b ≡ a → e ≡ pos d → 0 < d → unsigned_abs a ≤ m * d → m < 2 ^ 63 → IsRead r (div_rounded a (pos d)) m
quotient_read r a b e d m read dividend divisor some low small =
    let is : r ≡ div_rounded a (pos d) = read ∙ ap (λ (z : ℤ). div_rounded z e) dividend ∙ ap (λ (z : ℤ). div_rounded a z) divisor in
    let bound : unsigned_abs r ≤ m = rw is (quotient_bound a d m some low) in
    let whole : to_z w128 (of_z w128 r) ≡ r = same128 r (omega (arith, bound, small)) in
    let part : to_z w64 (of_z w64 r) ≡ r = same64 r (omega (arith, bound, small)) in
    record { fits = rw whole (fits_signed_from_abs w64 r (omega (arith, bound, small))); is = ap (λ (z : ℤ). to_z w64 (of_z w64 z)) whole ∙ part ∙ is; bound = rw (whole, part) bound }

-- a root is at most a number whose square is no less
root_some : (a q high : ℕ) → IsNearestRoot square a q → 0 < a → a ≤ high * high → q ≤ high
root_some a q high root some most =
    ⊎_elim (λ (less : high < q).
    let step : 2 * high * (2 * high) ≤ (2 * q - 1) * (2 * q - 1) = mul-le (2 * high) (2 * high) (2 * q - 1) (2 * q - 1) (omega arith) (omega arith) in
    absurd (omega (arith, step, root.at_least some, most))) (λ le. le) (cases_lt high q)

pub root_most : (a q high : ℕ) → IsNearestRoot square a q → a ≤ high * high → q ≤ high
root_most a q high root most = ⊎_elim (λ (some : 0 < a). root_some a q high root some most) (λ none. omega (arith, root.of_zero (omega (arith, none)))) (cases_lt 0 a)
