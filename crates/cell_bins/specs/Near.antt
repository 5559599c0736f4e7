-- What it is to meet every site that is near.
use Rattle.std.specs.Prelude.{◌≡◌, ◌<◌, ◌≤◌, ◌==◌, Bool, true, ℕ, ℤ, ◌-ℤ◌, unsigned_abs, List, map}
use Rattle.std.specs.List.{IsDistinct, filter}
use Rattle.std.specs.List.Sorted.{IsPermutation}
use Rattle.box_geo.specs.Sides.{x_of, y_of, z_of}
use Rattle.box_geo.specs.declared.atoms.Site.{Site}
use Rattle.cell_bins.specs.declared.limits.TheConstants.{MAX_COORDINATE}

-- no component is of a greater magnitude than a coordinate may be
abbrev pub IsSmall : List ℤ → Type 0
IsSmall x =
    (unsigned_abs (x_of x) ≤ unsigned_abs MAX_COORDINATE)
    × (unsigned_abs (y_of x) ≤ unsigned_abs MAX_COORDINATE)
    × (unsigned_abs (z_of x) ≤ unsigned_abs MAX_COORDINATE)

-- two positions are nearer than the reach along each axis
abbrev pub IsNear : ℕ → List ℤ → List ℤ → Type 0
IsNear reach a b =
    (unsigned_abs (x_of a -ℤ x_of b) < reach)
    × (unsigned_abs (y_of a -ℤ y_of b) < reach)
    × (unsigned_abs (z_of a -ℤ z_of b) < reach)

-- the sites that are met are those that pass some test, each once, in any order; every site that is nearer than the reach to x along each axis passes it
pub record Meets (reach : ℕ) (x : List ℤ) (sites met : List Site) : Type 0 where
  pub test : Site → Bool
  pub near : (s : Site) → IsNear reach x s.x → test s ≡ true
  pub once : IsPermutation (filter test sites) met

-- the places of sites that are met so
pub record MeetsPlaces (reach : ℕ) (x : List ℤ) (sites : List Site) (places : List ℕ) : Type 0 where
  pub met : List Site
  pub meets : Meets reach x sites met
  pub are : places ≡ map (λ s. s.place) met

-- no two sites have one place
abbrev pub HaveOwnPlaces : List Site → Type 0
HaveOwnPlaces sites = IsDistinct (λ a b. a == b) (map (λ s. s.place) sites)
