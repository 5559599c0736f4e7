-- Rows of numbers in one array: row k goes from the k-th start to the next.
use Rattle.std.specs.Prelude.{◌≡◌, ◌+◌, ◌-◌, ◌<◌, ◌≤◌, ℕ, List, ◌++◌, drop, length, slice_index, slice_index_or, take}
use Rattle.std.specs.List.Sorted.{IsPermutation}
use Rattle.box_geo.specs.declared.atoms.Site.{Site}
use Rattle.half_list.specs.Neighbours.{neighbours}

abbrev pub row_at : List ℕ → List ℕ → ℕ → List ℕ
row_at starts places k = take (slice_index starts (k + 1) - slice_index starts k) (drop (slice_index starts k) places)

-- the first n rows hold the neighbours of the first n sites, in any order
pub record HasRows (reach : ℕ) (own all : List Site) (n : ℕ) (starts places : List ℕ) : Type 0 where
  pub long : length starts ≡ n + 1
  pub last : slice_index starts n ≡ length places
  pub order : (k : ℕ) → k < n → slice_index starts k ≤ slice_index starts (k + 1)
  pub within : (k : ℕ) → k ≤ n → slice_index starts k ≤ length places
  pub rows : (k : ℕ) (d : Site) → k < n → IsPermutation (neighbours reach (slice_index_or own k d) all) (row_at starts places k)

-- the neighbours of a site among others were appended, in any order
pub record AppendsRow (reach : ℕ) (own : Site) (all : List Site) (old new : List ℕ) : Type 0 where
  pub row : List ℕ
  pub is : new ≡ old ++ row
  pub neighbours : IsPermutation (neighbours reach own all) row
