-- Rows of atoms: for each own atom those of greater id that are near.
use Rattle.std.specs.Prelude.{◌≡◌, ◌+◌, ◌<◌, ◌&&◌, Bool, nat_lt, ℕ, List, [], ◌∷◌, ◌++◌, length, map, slice_index_or}
use Rattle.std.specs.List.{filter}
use Rattle.std.specs.List.Sorted.{IsPermutation}
use Rattle.box_geo.specs.declared.atoms.Atom.{Atom}
use Rattle.box_geo.specs.declared.atoms.Site.{Site}
use Rattle.half_list.specs.Neighbours.{is_listed}

-- ids rise strictly
abbrev pub IdsRise : List Atom → Type 0
IdsRise atoms = (i j : ℕ) (d : Atom) → i < j → j < length atoms → (slice_index_or atoms i d).id < (slice_index_or atoms j d).id

-- of the atoms, those of greater id that are near
abbrev pub greater_near : (Atom × Atom → Bool) → List Atom → Atom → List Atom
greater_near near atoms own = filter (λ other. nat_lt own.id other.id && near (own, other)) atoms

-- a row for each own atom: the atoms of greater id that are near, each once, in any order
pub record AreRows (near : Atom × Atom → Bool) (atoms own : List Atom) (rows : List (List Atom)) : Type 0 where
  pub count : length rows ≡ length own
  pub each : (k : ℕ) (d : Atom) → k < length own → IsPermutation (greater_near near atoms (slice_index_or own k d)) (slice_index_or rows k [])

-- each own atom with each atom of its row
abbrev pub pairs_of : List Atom → List (List Atom) → List (Atom × Atom)
pairs_of [] rows = []
pairs_of (own ∷ others) [] = []
pairs_of (own ∷ others) (row ∷ rows) = map (λ other. (own, other)) row ++ pairs_of others rows

-- the sites that a list may hold show each atom once where it is near: what is listed for the site of an own atom are the places of sites of the atoms of greater id that are near, each atom once
abbrev pub ShowNear : (Atom × Atom → Bool) → ℕ → List Atom → List Site → (ℕ → Atom) → Site → Atom → Type 0
ShowNear near reach atoms sites atom_at own_site own =
    IsPermutation (greater_near near atoms own) (map (λ s. atom_at s.place) (filter (is_listed reach own_site) sites))

-- the site of an atom at a place, and the sites of atoms at their places in a list, without images
abbrev pub site_of : ℕ → Atom → Site
site_of place a = record { x = a.x; id = a.id; place = place }

abbrev pub sites_from : ℕ → List Atom → List Site
sites_from place [] = []
sites_from place (a ∷ atoms) = site_of place a ∷ sites_from (place + 1) atoms
