-- A word that holds a sum modulo 2^64.
use Rattle.std.proofs.Common.{◌≡◌, ℕ, ◌+◌, ◌*◌, ◌%◌, ◌^◌, ◌<◌, ℤ, pos, ◌+ℤ◌, sym, ap, ◌∙◌, subst, arith, mod-lt, to_z, of_z, w64, FitsSigned}
use Rattle.std.specs.Int.{int_wrap}
use Rattle.std.proofs.lemmas.Int.{ints, wrapping_add_onto, int_wrap-add_left, int_wrap_fits}
use Rattle.std.proofs.Common.{◌≤◌, Bool, true, false, cond, ◌==◌, List, [], ◌∷◌, length, All, unsigned_abs}
use Rattle.std.proofs.lemmas.Int.{fits_signed_from_abs}
use Rattle.std.proofs.lemmas.List.Elements.{All-head, All-tail}
use Rattle.sums.specs.Totals.{into}
use Rattle.weave_core.specs.declared.limits.TheConstants.{MAX_ADD}
use Rattle.weave_core.specs.Parts.{total_at}
use Rattle.weave_core.specs.Agree.{Wraps}

pub wraps_zero : Wraps 0 (pos 0)
wraps_zero = record { small = omega arith; is = sym (int_wrap_fits w64 (pos 0) (omega (arith, ints))) }

-- a wrapping add to the word adds to the sum
pub wraps_add : (word : ℕ) (sum value : ℤ) → FitsSigned w64 value → Wraps word sum → Wraps ((word + of_z w64 value) % 2 ^ 64) (sum +ℤ value)
wraps_add word sum value fits h = record {
  small = mod-lt (word + of_z w64 value) (omega arith);
  is = wrapping_add_onto w64 word value h.small fits ∙ ap (λ z. int_wrap w64 (z +ℤ value)) h.is ∙ int_wrap-add_left w64 sum value;
}

pub wraps_same : (word : ℕ) (sum sum' : ℤ) → sum' ≡ sum → Wraps word sum → Wraps word sum'
wraps_same word sum sum' e h = subst (Wraps word) (sym e) h

-- read as a signed number, the word is the sum where that fits
pub wraps_fits : (word : ℕ) (sum : ℤ) → FitsSigned w64 sum → Wraps word sum → to_z w64 word ≡ sum
wraps_fits word sum fits h = h.is ∙ int_wrap_fits w64 sum fits

into_within : (word : ℕ) (add : ℕ × ℤ) → unsigned_abs add.1 ≤ MAX_ADD → unsigned_abs (into word add) ≤ MAX_ADD
into_within word add small = by_test (add.0 == word)
  where
    by_test : (b : Bool) → unsigned_abs (cond b add.1 (pos 0)) ≤ MAX_ADD
    by_test true = small
    by_test false = omega arith

total_at_within : (word : ℕ) (adds : List (ℕ × ℤ)) → All (λ (add : ℕ × ℤ). unsigned_abs add.1 ≤ MAX_ADD) adds → unsigned_abs (total_at word adds) ≤ MAX_ADD * length adds
total_at_within word [] all = omega arith
total_at_within word (add ∷ adds) all =
    omega (arith, ints, into_within word add (All-head (λ (a : ℕ × ℤ). unsigned_abs a.1 ≤ MAX_ADD) add adds all), total_at_within word adds (All-tail (λ (a : ℕ × ℤ). unsigned_abs a.1 ≤ MAX_ADD) add adds all))

-- the total of fewer than 2^21 adds, each of a magnitude that is allowed, fits a signed word
pub total_at_fits : (word : ℕ) (adds : List (ℕ × ℤ)) → length adds < 2 ^ 21 → All (λ (add : ℕ × ℤ). unsigned_abs add.1 ≤ MAX_ADD) adds → FitsSigned w64 (total_at word adds)
total_at_fits word adds few all = fits_signed_from_abs w64 (total_at word adds) (omega (arith, few, total_at_within word adds all))
