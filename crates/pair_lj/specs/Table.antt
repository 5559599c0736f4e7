-- What contracts see of a table of pair coefficients: plain data.
use Rattle.std.specs.Prelude.{◌≡◌, ◌≤◌, Bool, true, ℕ, ℤ, List}
use Rattle.std.specs.List.{All}
use Rattle.pair_lj.specs.declared.pair_settings.PairCoefficients.{PairCoefficients}
use Rattle.pair_lj.specs.Pairs.{IsSoundPair}

-- a table: the number of atom types, the cutoff of the style, the pairs that are set, and whether it may be asked for terms
pub record Table : Type 0 where
  pub kinds : ℕ
  pub cutoff : ℤ
  pub pairs : List PairCoefficients
  pub finished : Bool

-- the table may be asked for terms: all its numbers keep to their limits
pub record IsFinished (t : Table) : Type 0 where
  pub marked : t.finished ≡ true
  pub sound : All IsSoundPair t.pairs

-- an atom type of the table
abbrev pub IsType : Table → ℕ → Type 0
IsType t i = (1 ≤ i) × (i ≤ t.kinds)
