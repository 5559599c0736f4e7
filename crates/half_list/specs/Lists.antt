-- What contracts see of a half list: its rows.
use Rattle.std.specs.Prelude.{◌-◌, ℕ, List, length}
use Rattle.half_list.specs.Rows.{row_at}
use Rattle.half_list.specs.declared.lists.List.{List as HalfList}

-- how many rows there are
abbrev pub row_count : HalfList → ℕ
row_count l = length l.starts.items - 1

-- the places of a row
abbrev pub row_of : HalfList → ℕ → List ℕ
row_of l k = row_at l.starts.items l.places.items k
