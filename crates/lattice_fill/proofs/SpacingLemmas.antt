-- How long the cells of a lattice are.
use Rattle.std.proofs.Common.{◌≡◌, ◌+◌, ◌-◌, ◌*◌, ◌<◌, ◌≤◌, ℕ, arith, ⊎_elim}
use Rattle.std.proofs.lemmas.Nat.{mul-le}
use Rattle.std.proofs.lemmas.Bool.{cases_lt}
use Rattle.fx_num.specs.Rounding.{nearest_of}
use Rattle.fx_num.specs.Roots.{square, cube, IsNearestRoot}
use Rattle.fx_num.proofs.RoundingLemmas.{nearest_of-le, nearest_rounds}
use Rattle.fx_num.proofs.RootLemmas.{IsPower, square_is, cube_is}

-- a rounded quotient between whole numbers
pub nearest_between : (n d low high : ℕ) → 0 < d → low * d ≤ n → n ≤ high * d → (low ≤ nearest_of n d) × (nearest_of n d ≤ high)
nearest_between n d low high some least most =
    let q = nearest_of n d in
    let rounds = nearest_rounds n d some in
    let above : low ≤ q = ⊎_elim (λ less. let step : (q + 1) * d ≤ low * d = mul-le (q + 1) d low d (omega arith) (omega arith) in absurd (omega (arith, rounds.at_least))) (λ le. le) (cases_lt q low) in
    (above, nearest_of-le n d high some most)

-- a root between whole numbers
root_between : (power : ℕ → ℕ) → IsPower power → (a q low high : ℕ) → IsNearestRoot power a q → 0 < a → power low ≤ a → a ≤ power high → (low ≤ q) × (q ≤ high)
root_between power is a q low high root some least most =
    let not_less : low ≤ q = ⊎_elim (λ less.
    let step : power (2 * q + 1) ≤ power (2 * low) = is.grows (2 * q + 1) (2 * low) (omega arith) in
    let double : power (2 * low) ≡ power 2 * power low = is.doubled low in
    let raised : power 2 * power low ≤ power 2 * a = mul-le (power 2) (power low) (power 2) a (omega arith) least in
    absurd (omega (arith, root.at_most some))) (λ le. le) (cases_lt q low) in
    let not_more : q ≤ high = ⊎_elim (λ less.
    let step : power (2 * high) ≤ power (2 * q - 1) = is.grows (2 * high) (2 * q - 1) (omega arith) in
    let double : power (2 * high) ≡ power 2 * power high = is.doubled high in
    let raised : power 2 * a ≤ power 2 * power high = mul-le (power 2) a (power 2) (power high) (omega arith) most in
    absurd (omega (arith, root.at_least some))) (λ le. le) (cases_lt high q) in
    (not_less, not_more)

pub sqrt_between : (a q low high : ℕ) → IsNearestRoot square a q → 0 < a → low * low ≤ a → a ≤ high * high → (low ≤ q) × (q ≤ high)
sqrt_between = root_between square square_is

pub cbrt_between : (a q low high : ℕ) → IsNearestRoot cube a q → 0 < a → low * low * low ≤ a → a ≤ high * high * high → (low ≤ q) × (q ≤ high)
cbrt_between = root_between cube cube_is
