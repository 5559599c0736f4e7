-- Bounds of the rounded products of the pair term.
use Rattle.std.proofs.Common.{◌*◌, ◌^◌, ◌<◌, ◌≤◌, ℕ, arith}
use Rattle.std.proofs.lemmas.Nat.{mul-le}
use Rattle.fx_num.specs.Rounding.{nearest_of}
use Rattle.fx_num.proofs.RoundingLemmas.{nearest_of-le}

pub cube_small : (w : ℕ) → w ≤ 2 ^ 36 → nearest_of (w * w * w) (2 ^ 64) ≤ 2 ^ 44
cube_small w low =
    let two : w * w ≤ 2 ^ 36 * 2 ^ 36 = mul-le w w (2 ^ 36) (2 ^ 36) low low in
    let three : w * w * w ≤ 2 ^ 36 * 2 ^ 36 * 2 ^ 36 = mul-le (w * w) w (2 ^ 36 * 2 ^ 36) (2 ^ 36) two low in
    nearest_of-le (w * w * w) (2 ^ 64) (2 ^ 44) (omega arith) (omega arith)

pub square_small : (s : ℕ) → s ≤ 2 ^ 44 → nearest_of (s * s) (2 ^ 32) ≤ 2 ^ 56
square_small s low =
    let two : s * s ≤ 2 ^ 44 * 2 ^ 44 = mul-le s s (2 ^ 44) (2 ^ 44) low low in
    nearest_of-le (s * s) (2 ^ 32) (2 ^ 56) (omega arith) (omega arith)

pub energy_small : (e g : ℕ) → e ≤ 2 ^ 32 → g ≤ 2 ^ 57 → nearest_of (4 * e * g) (2 ^ 32) ≤ 2 ^ 59
energy_small e g weak low =
    let two : 4 * e * g ≤ 4 * 2 ^ 32 * 2 ^ 57 = mul-le (4 * e) g (4 * 2 ^ 32) (2 ^ 57) (omega arith) low in
    nearest_of-le (4 * e * g) (2 ^ 32) (2 ^ 59) (omega arith) (omega arith)

pub weighted_small : (s q : ℕ) → q ≤ 2 ^ 24 → nearest_of (s * q) (2 ^ 24) ≤ s
weighted_small s q low = nearest_of-le (s * q) (2 ^ 24) s (omega arith) (mul-le s q s (2 ^ 24) (omega arith) low)

pub product_small : (s a : ℕ) → s < 2 ^ 52 → a < 2 ^ 28 → nearest_of (s * a) (2 ^ 32) ≤ 2 ^ 48
product_small s a few short =
    let two : s * a ≤ 2 ^ 52 * 2 ^ 28 = mul-le s a (2 ^ 52) (2 ^ 28) (omega arith) (omega arith) in
    nearest_of-le (s * a) (2 ^ 32) (2 ^ 48) (omega arith) (omega arith)
