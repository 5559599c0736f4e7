-- How large rounded quotients are, and quotients as code computes them.
use Rattle.std.proofs.Common.{◌≡◌, ◌*◌, ◌^◌, ◌<◌, ◌≤◌, ℕ, ℤ, pos, ◌*ℤ◌, unsigned_abs, FitsSigned, to_z, of_z, arith, ap, ◌∙◌}
use Rattle.std.specs.Int.{w128}
use Rattle.std.proofs.lemmas.Int.{to_z-of_z, fits_signed_from_abs}
use Rattle.fx_num.specs.Rounding.{div_rounded}
use Rattle.fx_num.proofs.RoundingLemmas.{nearest_of-le, unsigned_abs-div_rounded}

-- a quotient is at most m where the dividend is at most m times the divisor
pub quotient_bound : (a : ℤ) (d m : ℕ) → 0 < d → unsigned_abs a ≤ m * d → unsigned_abs (div_rounded a (pos d)) ≤ m
quotient_bound a d m some low = omega (arith, unsigned_abs-div_rounded a (pos d), nearest_of-le (unsigned_abs a) d m some low)

-- a quotient by a product
pub read_quotient : (r s f : ℤ) (n k : ℕ) → FitsSigned w128 s → f ≡ pos n → n < 2 ^ 127 → n * k < 2 ^ 127
    → r ≡ div_rounded (to_z w128 (of_z w128 s)) (to_z w128 (of_z w128 (to_z w128 (of_z w128 f) *ℤ pos k))) → r ≡ div_rounded s (pos (n * k))
read_quotient r s f n k fits e small whole h =
    let one : to_z w128 (of_z w128 s) ≡ s = to_z-of_z w128 s fits in
    let two : to_z w128 (of_z w128 f) ≡ pos n = ap (λ (z : ℤ). to_z w128 (of_z w128 z)) e ∙ to_z-of_z w128 (pos n) (fits_signed_from_abs w128 (pos n) small) in
    let three : to_z w128 (of_z w128 (pos (n * k))) ≡ pos (n * k) = to_z-of_z w128 (pos (n * k)) (fits_signed_from_abs w128 (pos (n * k)) whole) in
    h ∙ ap (λ (z : ℤ). div_rounded z (to_z w128 (of_z w128 (to_z w128 (of_z w128 f) *ℤ pos k)))) one
    ∙ ap (λ (z : ℤ). div_rounded s (to_z w128 (of_z w128 (z *ℤ pos k)))) two
    ∙ ap (div_rounded s) three
