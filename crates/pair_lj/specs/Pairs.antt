-- The pairs of atom types that are set, and the numbers of each pair of types. i j and j i are one pair.
use Rattle.std.specs.Prelude.{◌≡◌, ◌+◌, ◌*◌, ◌<◌, ◌≤◌, ◌⊎◌, ◌==◌, ◌&&◌, Bool, cond, min, max, is_some, ℕ, zero, suc, ℤ, pos, ◌*ℤ◌, ◌<ℤ◌, ◌≤ℤ◌, int_le, unsigned_abs, Option, Some, None, IsNone, IsSome, Result, List, [], ◌∷◌, ◌++◌, map}
use Rattle.std.specs.List.{list_any, list_all}
use Rattle.std.specs.Option.{option_map}
use Rattle.box_geo.specs.declared.limits.TheConstants.{MAX_CUTOFF, MAX_EPSILON, MAX_KINDS, MAX_SIGMA}
use Rattle.box_geo.specs.declared.term.Term.{Term}
use Rattle.pair_lj.specs.declared.close.Close.{Close}
use Rattle.pair_lj.specs.declared.pair_settings.PairCoefficients.{PairCoefficients}
use Rattle.pair_lj.specs.PairTerm.{pair_term}

-- the lesser type first, and numbers within their limits
pub record IsSoundPair (p : PairCoefficients) : Type 0 where
  pub low : 1 ≤ p.i
  pub ordered : p.i ≤ p.j
  pub high : p.j ≤ MAX_KINDS
  pub epsilon_low : pos 0 ≤ℤ p.epsilon
  pub epsilon_high : p.epsilon ≤ℤ MAX_EPSILON
  pub sigma_low : pos 0 <ℤ p.sigma
  pub sigma_high : p.sigma ≤ℤ MAX_SIGMA
  pub cutoff_low : pos 0 <ℤ p.cutoff
  pub cutoff_high : p.cutoff ≤ℤ MAX_CUTOFF
  pub covered : p.sigma ≤ℤ (pos 4 *ℤ p.cutoff)

-- whether these are the coefficients of types i and j
abbrev pub is_of : ℕ → ℕ → PairCoefficients → Bool
is_of i j p = (p.i == min i j) && (p.j == max i j)

-- the coefficients of types i and j
abbrev pub coefficients_of : List PairCoefficients → ℕ → ℕ → Option PairCoefficients
coefficients_of [] i j = None
coefficients_of (p ∷ pairs) i j = cond (is_of i j p) (Some p) (coefficients_of pairs i j)

-- a pair is set: in its place where it was set before, else behind the others
abbrev pub is_set : List PairCoefficients → ℕ → ℕ → Bool
is_set pairs i j = list_any (is_of i j) pairs

abbrev pub replaced : PairCoefficients → PairCoefficients → PairCoefficients
replaced p old = cond (is_of p.i p.j old) p old

abbrev pub set_pair : PairCoefficients → List PairCoefficients → List PairCoefficients
set_pair p pairs = cond (is_set pairs p.i p.j) (map (replaced p) pairs) (pairs ++ p ∷ [])

-- four cutoffs are at least the size
abbrev pub is_covered : ℤ → PairCoefficients → Bool
is_covered cutoff p = int_le p.sigma (pos 4 *ℤ cutoff)

abbrev pub are_covered : ℤ → List PairCoefficients → Bool
are_covered cutoff pairs = list_all (is_covered cutoff) pairs

abbrev pub with_cutoff : ℤ → PairCoefficients → PairCoefficients
with_cutoff cutoff p = record p { cutoff = cutoff }

abbrev pub with_cutoffs : ℤ → List PairCoefficients → List PairCoefficients
with_cutoffs cutoff pairs = map (with_cutoff cutoff) pairs

-- what the terms of a pair of types take of it: magnitudes in units
pub record PairNumbers : Type 0 where
  pub epsilon : ℕ
  pub sigma : ℕ
  pub cutoff : ℕ

abbrev pub numbers_of : PairCoefficients → PairNumbers
numbers_of p = record { epsilon = unsigned_abs p.epsilon; sigma = unsigned_abs p.sigma; cutoff = unsigned_abs p.cutoff }

-- the numbers of types i and j, in either order
unfoldable pub numbers_at : List PairCoefficients → ℕ → ℕ → Option PairNumbers
numbers_at pairs i j = option_map numbers_of (coefficients_of pairs i j)

-- the term of a pair of these numbers, with a special weight in units
abbrev pub term_by : PairNumbers → ℕ → List ℤ → Result (Option Term) Close
term_by n weight d = pair_term n.epsilon n.sigma n.cutoff (pos 0) weight d

-- the types from one on, so many
abbrev pub types_from : ℕ → ℕ → List ℕ
types_from first zero = []
types_from first (suc n) = first ∷ types_from (first + 1) n

-- whether each pair of types up to n has numbers
abbrev pub are_had_with : List PairCoefficients → ℕ → List ℕ → Bool
are_had_with pairs i js = list_all (λ j. is_some (numbers_at pairs i j)) js

unfoldable pub are_all_had : ℕ → List PairCoefficients → Bool
are_all_had n pairs = list_all (λ i. are_had_with pairs i (types_from 1 n)) (types_from 1 n)

-- one pair (a, b) comes before another (i, j): by the first type, then by the second
abbrev pub IsBefore : ℕ → ℕ → ℕ → ℕ → Type 0
IsBefore a b i j = (a < i) ⊎ ((a ≡ i) × (b < j))

-- the first pair of so many types that has no numbers, the lesser type first
pub record IsFirstUnset (kinds : ℕ) (pairs : List PairCoefficients) (i j : ℕ) : Type 0 where
  pub low : 1 ≤ i
  pub ordered : i ≤ j
  pub high : j ≤ kinds
  pub unset : IsNone (numbers_at pairs i j)
  pub first : (a b : ℕ) → 1 ≤ a → a ≤ b → b ≤ kinds → IsBefore a b i j → IsSome (numbers_at pairs a b)
