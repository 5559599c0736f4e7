-- Regions under their names, the latest first, and the points that they hold.
use Rattle.std.specs.Prelude.{◌≡◌, ◌*◌, ◌&&◌, Bool, true, false, not, cond, nat_le, ℕ, ℤ, pos, ◌-ℤ◌, int_lt, unsigned_abs, slice_index_or, Option, Some, None, List, [], ◌∷◌}
use Rattle.std.specs.List.{find, list_all, list_any}
use Rattle.std.specs.Str.{bytes_eq}
use Rattle.box_geo.specs.Sides.{length2, x_of, y_of, z_of}
use Rattle.regions_groups.specs.declared.region_table.RegionRefusal.{RegionRefusal}
use Rattle.regions_groups.specs.declared.region_table.RegionRefusal.TheVariants.{UnknownRegion, NameExists, NoMemory}
use Rattle.regions_groups.specs.declared.shapes.ClosedBlock.{ClosedBlock}
use Rattle.regions_groups.specs.declared.shapes.Region.{Region}
use Rattle.regions_groups.specs.declared.shapes.Region.TheVariants.{Block, Sphere, Union, Intersect}

-- a region under its name
pub record NamedRegion : Type 0 where
  pub name : List ℕ
  pub region : Region

abbrev pub is_named : List ℕ → NamedRegion → Bool
is_named name r = bytes_eq r.name name

abbrev pub is_there : List NamedRegion → List ℕ → Bool
is_there regions name = list_any (is_named name) regions

-- a number is not below the lower side, and not above the upper one; an open side bounds nothing
abbrev pub is_above : Option ℤ → ℤ → Bool
is_above None x = true
is_above (Some lo) x = not (int_lt x lo)

abbrev pub is_below : Option ℤ → ℤ → Bool
is_below None x = true
is_below (Some hi) x = not (int_lt hi x)

abbrev pub is_between : Option ℤ → Option ℤ → ℤ → Bool
is_between lo hi x = is_above lo x && is_below hi x

-- the side of a block along an axis
abbrev pub side_at : List (Option ℤ) → ℕ → Option ℤ
side_at sides axis = slice_index_or sides axis None

-- a block holds what is between its sides along each axis, the sides included
abbrev pub block_holds : List (Option ℤ) → List (Option ℤ) → List ℤ → Bool
block_holds lo hi x =
    is_between (side_at lo 0) (side_at hi 0) (x_of x)
    && is_between (side_at lo 1) (side_at hi 1) (y_of x)
    && is_between (side_at lo 2) (side_at hi 2) (z_of x)

-- the displacement from a centre to a point
abbrev pub displacement : List ℤ → List ℤ → List ℤ
displacement centre x = (x_of x -ℤ x_of centre) ∷ (y_of x -ℤ y_of centre) ∷ (z_of x -ℤ z_of centre) ∷ []

-- a sphere holds what is no further from its centre than its radius; a negative radius holds nothing
abbrev pub sphere_holds : List ℤ → ℤ → List ℤ → Bool
sphere_holds centre radius x =
    not (int_lt radius (pos 0))
    && nat_le (length2 (displacement centre x)) (unsigned_abs radius * unsigned_abs radius)

-- the inside of a shape, or all that is not in it
abbrev pub on_side : Bool → Bool → Bool
on_side true within = within
on_side false within = not within

-- whether a region holds a point, where `earlier` says which of the regions before it do, by their names
abbrev pub region_holds : (List ℕ → Bool) → Region → List ℤ → Bool
region_holds earlier (Block lo hi inside) x = on_side inside (block_holds lo hi x)
region_holds earlier (Sphere centre radius inside) x = on_side inside (sphere_holds centre radius x)
region_holds earlier (Union names inside) x = on_side inside (list_any earlier names)
region_holds earlier (Intersect names inside) x = on_side inside (list_all earlier names)

-- whether the region of a name holds a point: the latest of that name decides, over those before it
abbrev pub holds : List NamedRegion → List ℕ → List ℤ → Bool
holds [] name x = false
holds (r ∷ earlier) name x =
    cond (is_named name r) (region_holds (λ other. holds earlier other x) r.region x) (holds earlier name x)

-- the names that a region is made of
abbrev pub names_of : Region → List (List ℕ)
names_of (Block lo hi inside) = []
names_of (Sphere centre radius inside) = []
names_of (Union names inside) = names
names_of (Intersect names inside) = names

-- why a region is not taken: it names one that isn't there, the first such, or else its own name is there
abbrev pub first_unknown : List NamedRegion → List (List ℕ) → Option (List ℕ)
first_unknown regions names = find (λ name. not (is_there regions name)) names

abbrev pub fault_of : Option (List ℕ) → Bool → Option RegionRefusal
fault_of (Some name) exists = Some (UnknownRegion name)
fault_of None true = Some NameExists
fault_of None false = None

abbrev pub add_fault : List NamedRegion → List ℕ → Region → Option RegionRefusal
add_fault regions name region = fault_of (first_unknown regions (names_of region)) (is_there regions name)

-- a refusal names the first region that isn't there; want of memory may come wherever
abbrev pub IsUnknown : RegionRefusal → Option (List ℕ) → Type 0
IsUnknown (UnknownRegion name) first = first ≡ Some name
IsUnknown NameExists first = ⊥
IsUnknown NoMemory first = Unit {0}

-- a refusal is the one of the definition; want of memory may come wherever
abbrev pub IsRefusal : RegionRefusal → Option RegionRefusal → Type 0
IsRefusal NoMemory meant = Unit {0}
IsRefusal why meant = meant ≡ Some why

-- the sides of a block that has all six, with its inside: what a box is made of
abbrev pub three : Option ℤ → Option ℤ → Option ℤ → Option (List ℤ)
three (Some x) (Some y) (Some z) = Some (x ∷ y ∷ z ∷ [])
three _ _ _ = None

abbrev pub all_sides : List (Option ℤ) → Option (List ℤ)
all_sides sides = three (side_at sides 0) (side_at sides 1) (side_at sides 2)

abbrev pub closed_block : Option (List ℤ) → Option (List ℤ) → Option ClosedBlock
closed_block (Some lo) (Some hi) = Some (record { lo = lo; hi = hi })
closed_block _ _ = None

abbrev pub box_block : Region → Option ClosedBlock
box_block (Block lo hi true) = closed_block (all_sides lo) (all_sides hi)
box_block _ = None

abbrev pub block_of : List NamedRegion → List ℕ → Option ClosedBlock
block_of [] name = None
block_of (r ∷ earlier) name = cond (is_named name r) (box_block r.region) (block_of earlier name)

-- what is asked of regions: whether the one of this name holds a point
pub record Question : Type 0 where
  pub regions : List NamedRegion
  pub name : List ℕ

-- the region of the other side
abbrev pub other_side : Region → Region
other_side (Block lo hi inside) = Block lo hi (not inside)
other_side (Sphere centre radius inside) = Sphere centre radius (not inside)
other_side (Union names inside) = Union names (not inside)
other_side (Intersect names inside) = Intersect names (not inside)
