-- What the laws of ghosts speak of: the one image of a pair within reach, and the pairs of the lists of all bricks.
use Rattle.std.specs.Prelude.{◌+◌, ◌*◌, ◌++◌, ◌&&◌, Bool, true, false, cond, nat_lt, ℕ, ℤ, pos, neg_ℤ, ◌-ℤ◌, ◌*ℤ◌, ◌≤ℤ◌, int_lt, List, [], ◌∷◌, map, flat_map, slice_index, slice_index_or}
use Rattle.std.specs.List.{filter}
use Rattle.std.specs.List.Sorted.{IsStrictlyIncreasing}
use Rattle.box_geo.specs.declared.atoms.Atom.{Atom}
use Rattle.box_geo.specs.declared.atoms.Site.{Site}
use Rattle.box_geo.specs.declared.sim_box.Sides.{Sides}
use Rattle.box_geo.specs.Sides.{edge, x_of, y_of, z_of, z_wraps, near_image, length2}
use Rattle.rank_grid.specs.Owned.{atoms_of_rank, numbered}
use Rattle.sums.specs.Totals.{half}
use Rattle.ghost_shell.specs.declared.atom.Ghost.{Ghost}

-- the displacement from q to p as they stand
abbrev pub difference : List ℤ → List ℤ → List ℤ
difference p q = (x_of p -ℤ x_of q) ∷ (y_of p -ℤ y_of q) ∷ (z_of p -ℤ z_of q) ∷ []

-- shorter than the reach
abbrev pub is_short : ℕ → List ℤ → Bool
is_short reach d = nat_lt (length2 d) (reach * reach)

-- an edge that wraps is at least twice the reach
abbrev pub HasRoomAlong : Bool → ℤ → ℕ → Type 0
HasRoomAlong true length reach = pos (2 * reach) ≤ℤ length
HasRoomAlong false length reach = Unit {0}

abbrev pub HasRoom : Sides → ℕ → Type 0
HasRoom s reach = HasRoomAlong s.x.periodic (edge s.x) reach × HasRoomAlong s.y.periodic (edge s.y) reach × HasRoomAlong (z_wraps s) (edge s.z) reach

-- along an axis, the length by which the second of two positions is moved to its image nearest to the first, for a displacement d
abbrev pub nearest_along : Bool → ℤ → ℤ → ℤ
nearest_along false length d = pos 0
nearest_along true length d = cond (int_lt length (pos 2 *ℤ d)) length (cond (int_lt (pos 2 *ℤ d) (neg_ℤ length)) (neg_ℤ length) (pos 0))

-- and along all
unfoldable pub nearest_shift : Sides → List ℤ → List ℤ → List ℤ
nearest_shift s p q =
    nearest_along s.x.periodic (edge s.x) (x_of p -ℤ x_of q)
    ∷ nearest_along s.y.periodic (edge s.y) (y_of p -ℤ y_of q)
    ∷ nearest_along (z_wraps s) (edge s.z) (z_of p -ℤ z_of q)
    ∷ []

-- the sites of a rank's own atoms
abbrev pub own_site : ℕ × Atom → Site
own_site e = record { x = e.1.x; id = e.1.id; place = e.0 }

abbrev pub own_sites : List ℕ → Sides → List Atom → ℕ → List Site
own_sites counts s atoms rank = map own_site (atoms_of_rank counts s atoms rank)

-- the sites of its ghosts
abbrev pub sites_of : List Ghost → List Site
sites_of ghosts = map (λ g. g.site) ghosts

-- the row of a site has the sites of greater id nearer than the reach
abbrev pub is_in_row : ℕ → Site → Site → Bool
is_in_row reach own other = nat_lt own.id other.id && is_short reach (difference own.x other.x)

-- the rows of a brick, as pairs of places of atoms
abbrev pub pairs_of_rows : ℕ → List Site → List Site → List (ℕ × ℕ)
pairs_of_rows reach own sites = flat_map (λ a. map (λ b. (a.place, b.place)) (filter (is_in_row reach a) sites)) own

-- sites with their places in their own list, from k on, in place of those of their atoms
abbrev pub sites_numbered : ℕ → List Site → List Site
sites_numbered k [] = []
sites_numbered k (s ∷ sites) = record s { place = k } ∷ sites_numbered (k + 1) sites

-- the places of the atoms of two sites of a list
abbrev pub atom_places : List Site → ℕ × ℕ → ℕ × ℕ
atom_places sites numbers = (slice_index (map (λ s. s.place) sites) numbers.0, slice_index (map (λ s. s.place) sites) numbers.1)

-- the sites of a rank: its own atoms, then its ghosts
abbrev pub rank_sites : List ℕ → Sides → List Atom → ℕ → List Ghost → List Site
rank_sites counts s atoms rank shell = own_sites counts s atoms rank ++ sites_of shell

-- the pairs of places of atoms that are nearer than the reach, the lesser place first, each once
abbrev pub are_near : Sides → ℕ → (ℕ × Atom) × (ℕ × Atom) → Bool
are_near s reach p = is_short reach (near_image s p.0.1.x p.1.1.x)

abbrev pub near_places : Sides → ℕ → List Atom → List (ℕ × ℕ)
near_places s reach atoms = map (λ p. (p.0.0, p.1.0)) (filter (are_near s reach) (half (numbered 0 atoms)))

-- the pair of the atoms at two places, d past the end
abbrev pub atom_pair : List Atom → Atom → ℕ × ℕ → Atom × Atom
atom_pair atoms d places = (slice_index_or atoms places.0 d, slice_index_or atoms places.1 d)

-- atoms in rising order of id
abbrev pub HaveRisingIds : List Atom → Type 0
HaveRisingIds atoms = IsStrictlyIncreasing (map (λ a. a.id) atoms)
