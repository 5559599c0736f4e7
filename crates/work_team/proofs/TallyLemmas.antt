-- Sums of tallies over lists of pieces, and how large they are.
use Rattle.std.proofs.Common.{◌≡◌, ℕ, ◌+◌, ◌*◌, ◌≤◌, List, [], ◌∷◌, ◌++◌, ℤ, ◌+ℤ◌, unsigned_abs, of_z, to_z, ap, ◌∙◌, arith}
use Rattle.std.specs.Int.{w128}
use Rattle.std.proofs.lemmas.Int.{ints, to_z-of_z, fits_signed_from_abs}
use Rattle.sums.proofs.Totals.{total-append}
use Rattle.work_team.specs.declared.tally.Tally.{Tally}
use Rattle.weave_core.specs.declared.limits.TheConstants.{MAX_PIECES}
use Rattle.work_team.specs.declared.limits.TheConstants.{MAX_TALLY}
use Rattle.work_team.specs.Tallies.{plus, IsWithin}
use Rattle.work_team.specs.Effects.{Effect, tally_of}

-- the code's sum of two numbers that are far within 128 bits
pub sum_is : (a b : ℤ) → unsigned_abs a ≤ MAX_TALLY * MAX_PIECES → unsigned_abs b ≤ MAX_TALLY * MAX_PIECES
    → to_z w128 (of_z w128 (to_z w128 (of_z w128 a) +ℤ to_z w128 (of_z w128 b))) ≡ a +ℤ b
sum_is a b here there =
    let first : to_z w128 (of_z w128 a) ≡ a = to_z-of_z w128 a (fits_signed_from_abs w128 a (omega (arith, here))) in
    let second : to_z w128 (of_z w128 b) ≡ b = to_z-of_z w128 b (fits_signed_from_abs w128 b (omega (arith, there))) in
    ap (λ x. to_z w128 (of_z w128 (x +ℤ to_z w128 (of_z w128 b)))) first
    ∙ (ap (λ x. to_z w128 (of_z w128 (a +ℤ x))) second ∙ to_z-of_z w128 (a +ℤ b) (fits_signed_from_abs w128 (a +ℤ b) (omega (arith, ints, here, there))))

-- two tallies are the same where their four numbers are
pub same_tally : (s t : Tally) → s.pair ≡ t.pair → s.bond ≡ t.bond → s.angle ≡ t.angle → s.virial ≡ t.virial → s ≡ t
same_tally s t pair bond angle virial =
    let of : ℤ → ℤ → ℤ → ℤ → Tally = λ a b c d. record { pair = a; bond = b; angle = c; virial = d } in
    ap (λ x. of x s.bond s.angle s.virial) pair ∙ (ap (λ x. of t.pair x s.angle s.virial) bond ∙ (ap (λ x. of t.pair t.bond x s.virial) angle ∙ ap (λ x. of t.pair t.bond t.angle x) virial))

pub IsWithin-weaker : (m n : ℕ) (t : Tally) → m ≤ n → IsWithin m t → IsWithin n t
IsWithin-weaker m n t le within = record {
  pair = omega (arith, le, within.pair);
  bond = omega (arith, le, within.bond);
  angle = omega (arith, le, within.angle);
  virial = omega (arith, le, within.virial);
}

pub IsWithin-plus : (m n : ℕ) (s t : Tally) → IsWithin m s → IsWithin n t → IsWithin (m + n) (plus s t)
IsWithin-plus m n s t here there = record {
  pair = omega (arith, ints, here.pair, there.pair);
  bond = omega (arith, ints, here.bond, there.bond);
  angle = omega (arith, ints, here.angle, there.angle);
  virial = omega (arith, ints, here.virial, there.virial);
}

module _ (effect : ℕ → Effect) where
  pub tally_of-append : (ps qs : List ℕ) → tally_of effect (ps ++ qs) ≡ plus (tally_of effect ps) (tally_of effect qs)
  tally_of-append ps qs =
      same_tally (tally_of effect (ps ++ qs)) (plus (tally_of effect ps) (tally_of effect qs))
      (total-append (λ p. (effect p).tally.pair) ps qs)
      (total-append (λ p. (effect p).tally.bond) ps qs)
      (total-append (λ p. (effect p).tally.angle) ps qs)
      (total-append (λ p. (effect p).tally.virial) ps qs)

  pub tally_of-one : (p : ℕ) → tally_of effect (p ∷ []) ≡ (effect p).tally
  tally_of-one p =
      same_tally (tally_of effect (p ∷ [])) (effect p).tally
      (omega (arith, ints))
      (omega (arith, ints))
      (omega (arith, ints))
      (omega (arith, ints))
