-- What parts of the walk over the bricks find.
use Rattle.std.specs.Prelude.{◌==◌, ◌&&◌, Bool, cond, not, ℕ, ℤ, List, [], ◌∷◌, flat_map, take, drop}
use Rattle.box_geo.specs.declared.atoms.Atom.{Atom}
use Rattle.box_geo.specs.declared.sim_box.Sides.{Sides}
use Rattle.rank_grid.specs.Owned.{atoms_of_rank, numbered}
use Rattle.ghost_shell.specs.declared.atom.Ghost.{Ghost}
use Rattle.ghost_shell.specs.declared.halo.Halo.{Halo}
use Rattle.ghost_shell.specs.declared.visit.Visit.{Visit}
use Rattle.ghost_shell.specs.Images.{position, shifts, stays}
use Rattle.ghost_shell.specs.Ghosts.{ghost_of}
use Rattle.ghost_shell.specs.Halos.{holds}

-- the atoms at some places, with their places
abbrev pub atoms_at : List Atom → List ℕ → List (ℕ × Atom)
atoms_at atoms places = flat_map (λ k. take 1 (drop k (numbered 0 atoms))) places

-- the ghost that a shift makes of an atom where it brings it into a halo; one of the rank's own atoms where it stands is none
abbrev pub ghost_by : Halo → Bool → ℕ × Atom → List ℤ → List Ghost
ghost_by h own e shift = cond (holds h (position (e, shift)) && not (own && stays shift)) (ghost_of (e, shift) ∷ []) []

-- what a visit finds of one atom: by the lengths i along x and j along y, by i alone, and in all
abbrev pub found_on_line : Visit → ℕ × Atom → ℤ → ℤ → List Ghost
found_on_line v e i j = flat_map (λ k. ghost_by v.halo v.own e (i ∷ j ∷ k ∷ [])) v.lengths.z.items

abbrev pub found_on_plane : Visit → ℕ × Atom → ℤ → List Ghost
found_on_plane v e i = flat_map (found_on_line v e i) v.lengths.y.items

abbrev pub found_of : Visit → ℕ × Atom → List Ghost
found_of v e = flat_map (found_on_plane v e) v.lengths.x.items

-- the ghosts of a rank that come from another, or the same, rank
abbrev pub ghosts_from : List ℕ → Sides → List Atom → Halo → ℕ → ℕ → List Ghost
ghosts_from counts s atoms h rank other =
    flat_map (λ e. flat_map (ghost_by h (other == rank) e) (shifts s)) (atoms_of_rank counts s atoms other)
