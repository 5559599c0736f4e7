-- The table of the pairs that are set, and how far they reach.
use Rattle.std.proofs.Common.{◌≡◌, ◌^◌, ◌<◌, ◌≤◌, Bool, true, false, cond, max, ℕ, ℤ, pos, ◌≤ℤ◌, unsigned_abs, FitsSigned, to_z, of_z, Option, Some, IfSome, List, [], ◌∷◌, fold, is_some, arith}
use Rattle.std.specs.Int.{w64}
use Rattle.std.specs.List.{AllByRecursion}
use Rattle.std.specs.Option.{option_map}
use Rattle.std.proofs.lemmas.Int.{ints, fits_signed_from_abs, to_z-of_z}
use Rattle.meaning.specs.declared.force.Force.{Force}
use Rattle.meaning.specs.Pairs.{reach_of}
use Rattle.pair_lj.specs.declared.pair_settings.PairCoefficients.{PairCoefficients}
use Rattle.pair_lj.specs.Pairs.{IsSoundPair, coefficients_of, is_of, numbers_at, numbers_of}
use Rattle.serial_step.specs.Forces.{field_of}
use Rattle.serial_step.specs.Pairs.{IsReach}

-- a number that fits 64 bits is passed as it is
pub passed : (x : ℤ) → pos 0 ≤ℤ x → x ≤ℤ pos (2 ^ 32) → to_z w64 (of_z w64 x) ≡ x
passed x low high = let fits : FitsSigned w64 x = fits_signed_from_abs w64 x (omega (arith, ints)) in to_z-of_z w64 x fits

-- the greatest cutoff
abbrev farther : ℕ → PairCoefficients → ℕ
farther most p = max most (unsigned_abs p.cutoff)

fold_from : (a : ℕ) (ps : List PairCoefficients) → a ≤ fold farther a ps
fold_from a [] = omega arith
fold_from a (p ∷ ps) = let rest : farther a p ≤ fold farther (farther a p) ps = fold_from (farther a p) ps in omega arith

fold_each : (a : ℕ) (ps : List PairCoefficients) → AllByRecursion (λ p. unsigned_abs p.cutoff ≤ fold farther a ps) ps
fold_each a ps = all_within a ps (fold farther a ps) (omega arith)
  where
    all_within : (a : ℕ) (ps : List PairCoefficients) (most : ℕ) → fold farther a ps ≤ most → AllByRecursion (λ p. unsigned_abs p.cutoff ≤ most) ps
    all_within a [] most low = tt
    all_within a (p ∷ ps) most low = let first : farther a p ≤ fold farther (farther a p) ps = fold_from (farther a p) ps in (omega arith, all_within (farther a p) ps most low)

pub each_reached : (force : Force) → AllByRecursion (λ p. unsigned_abs p.cutoff ≤ reach_of force) force.pairs
each_reached force = fold_each (unsigned_abs force.comm_cutoff) force.pairs

pub some_reach : (force : Force) (i j : ℕ) → AllByRecursion IsSoundPair force.pairs → is_some (numbers_at force.pairs i j) ≡ true → 0 < reach_of force
unfolding numbers_at
some_reach force i j sound set = from_first force.pairs (unsigned_abs force.comm_cutoff) sound set
  where
    from_first : (ps : List PairCoefficients) (a : ℕ) → AllByRecursion IsSoundPair ps → is_some (option_map numbers_of (coefficients_of ps i j)) ≡ true → 0 < fold farther a ps
    from_first [] a sound set = absurd cc
    from_first (p ∷ ps) a sound set = let first : farther a p ≤ fold farther (farther a p) ps = fold_from (farther a p) ps in omega (arith, ints, sound.0.cutoff_low)

-- no cutoff is beyond the reach
found_within : (ps : List PairCoefficients) (i j most : ℕ) → AllByRecursion (λ p. unsigned_abs p.cutoff ≤ most) ps → IfSome (option_map numbers_of (coefficients_of ps i j)) (λ n. n.cutoff ≤ most)
found_within [] i j most within = tt
found_within (p ∷ ps) i j most within = by_test (is_of i j p) (coefficients_of ps i j) (found_within ps i j most within.1)
  where
    by_test : (b : Bool) (o : Option PairCoefficients) → IfSome (option_map numbers_of o) (λ n. n.cutoff ≤ most) → IfSome (option_map numbers_of (cond b (Some p) o)) (λ n. n.cutoff ≤ most)
    by_test true o rest = within.0
    by_test false o rest = rest

pub all_reached : (force : Force) → IsReach (field_of force.pairs) (reach_of force)
unfolding numbers_at
all_reached force i j = found_within force.pairs i j (reach_of force) (each_reached force)
