-- The pairs of a brick, and the pairs of a list.
use Rattle.std.specs.Prelude.{ℕ, pos, List, flat_map, map}
use Rattle.box_geo.specs.declared.atoms.Atom.{Atom}
use Rattle.box_geo.specs.declared.sim_box.Sides.{Sides}
use Rattle.ghost_shell.specs.Ghosts.{ghosts}
use Rattle.ghost_shell.specs.Lists.{own_sites, pairs_of_rows, rank_sites}
use Rattle.half_list.specs.Lists.{row_of}
use Rattle.neighbor_lists.specs.declared.lists.BrickList.{BrickList}
use Rattle.rank_grid.specs.Owned.{numbered}

-- the pairs of places of atoms that a brick evaluates: each atom that it owns with those of greater id that have a site within reach, own or ghost
unfoldable pub brick_pairs : List ℕ → Sides → ℕ → List Atom → ℕ → List (ℕ × ℕ)
brick_pairs counts s reach atoms rank =
    pairs_of_rows reach (own_sites counts s atoms rank) (rank_sites counts s atoms rank (ghosts counts s rank (pos reach) atoms))

-- the pairs of a row: the place of an own atom with each place of its row
abbrev pub row_pairs : (ℕ → List ℕ) → ℕ × ℕ → List (ℕ × ℕ)
row_pairs row own = map (λ other. (own.1, other)) (row own.0)

-- the pairs of places of a list, row by row
abbrev pub pairs_of : BrickList → List (ℕ × ℕ)
pairs_of l = flat_map (row_pairs (row_of l.rows)) (numbered 0 l.own.items)
