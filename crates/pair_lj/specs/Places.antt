-- Where a table keeps the numbers of a pair of types: in rows of 64 places, a pair at its lesser type's row.
use Rattle.std.specs.Prelude.{◌≡◌, ◌+◌, ◌-◌, ◌*◌, ◌/◌, ◌%◌, ◌<◌, ◌≤◌, Bool, true, cond, ℕ, zero, suc, min, max, length, Option, Some, None, IsSomeAnd, List, slice_index_or}
use Rattle.std.specs.List.{All}
use Rattle.pair_lj.specs.declared.coefficients.Coefficients.{Coefficients}
use Rattle.pair_lj.specs.declared.pair_settings.PairCoefficients.{PairCoefficients}
use Rattle.pair_lj.specs.Pairs.{IsSoundPair, PairNumbers, is_set, numbers_at}

abbrev pub place : ℕ → ℕ → ℕ
place i j = 64 * (min i j - 1) + (max i j - 1)

abbrev pub pair_in : List (Option Coefficients) → ℕ → ℕ → Option Coefficients
pair_in places i j = slice_index_or places (place i j) None

-- the numbers that are kept
abbrev pub numbers_in : Coefficients → PairNumbers
numbers_in k = record { epsilon = k.epsilon; sigma = k.sigma; cutoff = k.cutoff }

-- a place has the numbers of its pair
abbrev pub HasNumbers : List PairCoefficients → Option Coefficients → ℕ → ℕ → Type 0
HasNumbers pairs kept i j = IsSomeAnd kept (λ k. numbers_at pairs i j ≡ Some (numbers_in k))

-- the place of each pair of so many types has its numbers
abbrev pub AreFilled : ℕ → List PairCoefficients → List (Option Coefficients) → Type 0
AreFilled kinds pairs places = (i j : ℕ) → 1 ≤ i → i ≤ kinds → 1 ≤ j → j ≤ kinds → HasNumbers pairs (pair_in places i j) i j

-- how many of the first places stand for a pair that isn't set
unfoldable pub open_below : List PairCoefficients → ℕ → ℕ
open_below pairs zero = 0
open_below pairs (suc n) = open_below pairs n + cond (is_set pairs (n / 64 + 1) (n % 64 + 1)) 0 1

-- a table of so many types keeps to its form: there is room to set each pair that isn't, and once it is finished each place is filled
pub record IsKept (kinds : ℕ) (pairs : List PairCoefficients) (capacity : ℕ) (places : List (Option Coefficients)) (finished : Bool) : Type 0 where
  pub few : kinds ≤ 64
  pub squared : length places ≡ 64 * kinds
  pub sound : All IsSoundPair pairs
  pub room : length pairs + open_below pairs (64 * kinds) ≤ capacity
  pub filled : finished ≡ true → AreFilled kinds pairs places
