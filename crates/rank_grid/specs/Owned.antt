-- The atoms that a rank owns, by their places in the list of atoms.
use Rattle.std.specs.Prelude.{◌≡◌, ◌+◌, ◌-◌, ◌==◌, ◌<◌, ℕ, List, [], ◌∷◌, length, map, take, drop, reverse, slice_index}
use Rattle.std.specs.List.{filter, range_with_len}
use Rattle.box_geo.specs.declared.atoms.Atom.{Atom}
use Rattle.box_geo.specs.declared.sim_box.Sides.{Sides}
use Rattle.rank_grid.specs.declared.owned.Owned.{Owned}
use Rattle.rank_grid.specs.Bricks.{owner, ranks}

-- the elements with their places, which begin at k
abbrev pub numbered : {X : Type 0} → ℕ → List X → List (ℕ × X)
numbered k [] = []
numbered k (x ∷ xs) = (k, x) ∷ numbered (k + 1) xs

-- the atoms of a rank with their places, in the order of the list
abbrev pub atoms_of_rank : List ℕ → Sides → List Atom → ℕ → List (ℕ × Atom)
atoms_of_rank counts s atoms rank = filter (λ e. owner counts s e.1.x == rank) (numbered 0 atoms)

-- and their places alone, which rise
unfoldable pub places_owned : List ℕ → Sides → List Atom → ℕ → List ℕ
places_owned counts s atoms rank = map (λ e. e.0) (atoms_of_rank counts s atoms rank)

-- the places at which a rank stands in a list of owners
abbrev pub places_where : List ℕ → ℕ → List ℕ
places_where owners rank = map (λ e. e.0) (filter (λ e. e.1 == rank) (numbered 0 owners))

-- the rank that stands at a place, and the places from the last to the first
abbrev pub owner_at : List ℕ → ℕ → ℕ
owner_at owners place = slice_index owners place

abbrev pub places_back : List ℕ → List ℕ
places_back owners = reverse (range_with_len 0 (length owners))

-- the row of a number in compressed rows: the places between two starts
abbrev pub row_at : List ℕ → List ℕ → ℕ → List ℕ
row_at starts places k = take (slice_index starts (k + 1) - slice_index starts k) (drop (slice_index starts k) places)

-- the places that are kept for a rank, and the number of ranks
unfoldable pub row_of : Owned → ℕ → List ℕ
row_of o rank = row_at o.starts.items o.places.items rank

unfoldable pub rows_of : Owned → ℕ
rows_of o = length o.starts.items - 1

-- for each rank the places of its atoms: what migration gives
pub record AreOwned (counts : List ℕ) (s : Sides) (atoms : List Atom) (o : Owned) : Type 0 where
  pub each : rows_of o ≡ ranks counts
  pub rows : (rank : ℕ) → rank < ranks counts → row_of o rank ≡ places_owned counts s atoms rank
