-- The check of a guessed quotient, as code writes it: one comparison of a remainder that wraps where the guess is too great.
use Rattle.std.proofs.Common.{◌+◌, ◌-◌, ◌*◌, ◌%◌, ◌^◌, ◌<◌, ◌≤◌, ℕ, arith}
use Rattle.std.proofs.lemmas.Nat.{mul-le}
use Rattle.fx_num.specs.Rounding.{RoundsTo}

pub check_rounds : (n d q : ℕ) → n < 2 ^ 126 → d ≤ 2 ^ 62 → q < 2 ^ 64 → (2 * n + d + (2 ^ 128 - q * (2 * d))) % 2 ^ 128 < 2 * d → RoundsTo n d q
check_rounds n d q small short fits close =
    let product : q * (2 * d) ≤ 2 ^ 64 * 2 ^ 63 = mul-le q (2 * d) (2 ^ 64) (2 ^ 63) (omega arith) (omega arith) in
    let low : q * (2 * d) ≤ 2 * n + d = omega arith in
    record { at_most = omega arith; at_least = omega arith }

pub rounds_check : (n d q : ℕ) → n < 2 ^ 126 → d ≤ 2 ^ 62 → RoundsTo n d q → (2 * n + d + (2 ^ 128 - q * (2 * d))) % 2 ^ 128 < 2 * d
rounds_check n d q small short r =
    let high : 2 * (q * d) ≤ 2 * n + d = r.at_most in
    let low : 2 * n < 2 * (q * d) + d = r.at_least in
    omega arith
