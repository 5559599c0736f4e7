-- Ids in rising order, and whether one is among them.
use Rattle.std.specs.Prelude.{◌==◌, ◌<◌, Bool, ℕ, List, length, slice_index}
use Rattle.std.specs.List.{list_any}

-- ids stand in strictly rising order
abbrev pub Rises : List ℕ → Type 0
Rises ids = (i j : ℕ) → i < j → j < length ids → slice_index ids i < slice_index ids j

-- whether an id is among those of a list
abbrev pub is_among : List ℕ → ℕ → Bool
is_among ids id = list_any (λ other. other == id) ids
