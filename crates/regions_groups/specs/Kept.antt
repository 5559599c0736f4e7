-- How regions are kept: each with the places of those that it is made of, counted from the earliest.
use Rattle.std.specs.Prelude.{◌≡◌, Bool, false, cond, ℕ, ℤ, length, slice_index_or, map, reverse, Option, Some, None, List, [], ◌∷◌, ◌++◌}
use Rattle.std.specs.List.{list_all, list_any}
use Rattle.regions_groups.specs.declared.kept_regions.Kept.{Kept}
use Rattle.regions_groups.specs.declared.shapes.Region.{Region}
use Rattle.regions_groups.specs.declared.shapes.Region.TheVariants.{Block, Sphere, Union, Intersect}
use Rattle.regions_groups.specs.Regions.{block_holds, holds, is_named, names_of, on_side, region_holds, sphere_holds, NamedRegion}

-- a kept region under its name
abbrev pub named : Kept → NamedRegion
named k = record { name = k.name; region = k.region }

-- the regions of a list that has the earliest first
abbrev pub latest_first : List Kept → List NamedRegion
latest_first kept = map named (reverse kept)

-- the place of the region of a name, if there is one
abbrev pub place_in : List NamedRegion → List ℕ → Option ℕ
place_in [] name = None
place_in (r ∷ earlier) name = cond (is_named name r) (Some (length earlier)) (place_in earlier name)

-- whether each region holds a point, the earliest first
abbrev pub answers : List NamedRegion → List ℤ → List Bool
answers [] x = []
answers (r ∷ earlier) x = answers earlier x ++ region_holds (λ other. holds earlier other x) r.region x ∷ []

-- the answer at a place
abbrev pub answer_at : List Bool → ℕ → Bool
answer_at known place = slice_index_or known place false

-- whether a region holds a point, by the answers at the places of those that it is made of
abbrev pub holds_by : List Bool → List ℕ → Region → List ℤ → Bool
holds_by known places (Block lo hi inside) x = on_side inside (block_holds lo hi x)
holds_by known places (Sphere centre radius inside) x = on_side inside (sphere_holds centre radius x)
holds_by known places (Union names inside) x = on_side inside (list_any (answer_at known) places)
holds_by known places (Intersect names inside) x = on_side inside (list_all (answer_at known) places)

-- of regions with the latest first: each has the places of those that it is made of, which stand before it
abbrev pub ArePlaced : List Kept → Type 0
ArePlaced [] = Unit {0}
ArePlaced (k ∷ earlier) =
    (map (λ place. Some place) k.places ≡ map (place_in (map named earlier)) (names_of k.region)) × ArePlaced earlier
