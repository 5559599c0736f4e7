-- `lattice`, `region`, `create_box` and `create_atoms`. Lengths are in units; those that a lattice scales are multiples of its spacing.
use Rattle.std.specs.Prelude.{◌==◌, ◌+◌, ◌^◌, ◌||◌, ◌*ℤ◌, Bool, false, cond, not, is_some, nat_lt, max, pos, unsigned_abs, ℕ, zero, suc, ℤ, Option, Some, None, Result, Ok, Err, List, [], ◌∷◌, ◌++◌, length, slice_index_or}
use Rattle.std.specs.List.{filter, fold}
use Rattle.std.specs.Option.{option_map}
use Rattle.box_geo.specs.declared.atoms.Atom.{Atom}
use Rattle.box_geo.specs.declared.limits.TheConstants.{MAX_ATOMS, MAX_ID, MAX_POSITION}
use Rattle.box_geo.specs.Sides.{box_refusal, sides_of, x_of, y_of, z_of}
use Rattle.command_words.specs.declared.lattice.Creation.{Creation}
use Rattle.command_words.specs.declared.lattice.CreationSites.{CreationSites}
use Rattle.command_words.specs.declared.lattice.CreationSites.TheVariants as sites
use Rattle.command_words.specs.declared.lattice.LatticeSetting.{LatticeSetting}
use Rattle.command_words.specs.declared.lattice.NewBox.{NewBox}
use Rattle.command_words.specs.declared.lattice.NewRegion.{NewRegion}
use Rattle.command_words.specs.declared.lattice.Shape.{Shape}
use Rattle.command_words.specs.declared.lattice.Shape.TheVariants as shape
use Rattle.command_words.specs.declared.lattice.SinglePoint.{SinglePoint}
use Rattle.fx_num.specs.Rounding.{shr_rounded}
use Rattle.lattice_fill.specs.declared.spacing.Spacing.{Spacing}
use Rattle.lattice_fill.specs.Lattice.{dim_of, lengths, spacing_of}
use Rattle.lattice_fill.specs.Points.{is_inside, points_of}
use Rattle.meaning.specs.declared.code.Code.{Code}
use Rattle.meaning.specs.declared.code.Code.TheVariants as code
use Rattle.meaning.specs.declared.settings.Body.{Body}
use Rattle.meaning.specs.declared.settings.Settings.{Settings}
use Rattle.meaning.specs.declared.setup.LatticeChoice.{LatticeChoice}
use Rattle.meaning.specs.declared.setup.Setup.{Setup}
use Rattle.regions_groups.specs.declared.region_table.RegionRefusal.{RegionRefusal}
use Rattle.regions_groups.specs.declared.region_table.RegionRefusal.TheVariants as refusal
use Rattle.regions_groups.specs.declared.shapes.ClosedBlock.{ClosedBlock}
use Rattle.regions_groups.specs.declared.shapes.Region.{Region}
use Rattle.regions_groups.specs.declared.shapes.Region.TheVariants as space
use Rattle.regions_groups.specs.Regions.{NamedRegion, add_fault, block_of, holds, is_there}

-- `lattice`: the style is one of the dimension that is set
abbrev pub lattice : LatticeSetting → Settings → Result Settings Code
lattice l s =
    cond (dim_of l.style == s.setup.dim)
    (Ok (record s { setup = record s.setup { lattice = Some record { style = l.style; density = l.density } } }))
    (Err code.WrongStyle)

-- the spacing along each axis; before any lattice it is 1
abbrev pub spacing_of_choice : LatticeChoice → Spacing
spacing_of_choice l = spacing_of l.style (unsigned_abs l.density)

abbrev pub spacing_in : Option LatticeChoice → List ℤ
spacing_in None = pos (2 ^ 24) ∷ pos (2 ^ 24) ∷ pos (2 ^ 24) ∷ []
spacing_in (Some l) = lengths (spacing_of_choice l)

-- a length, a vector and an open or closed side, where the lattice scales them
abbrev pub scaled_length : Bool → ℤ → ℤ → ℤ
scaled_length scaled spacing v = cond scaled (shr_rounded (v *ℤ spacing) 24) v

abbrev pub scaled_vector : Bool → List ℤ → List ℤ → List ℤ
scaled_vector scaled spacing v =
    scaled_length scaled (x_of spacing) (x_of v)
    ∷ scaled_length scaled (y_of spacing) (y_of v)
    ∷ scaled_length scaled (z_of spacing) (z_of v)
    ∷ []

abbrev pub scaled_side : Bool → ℤ → Option ℤ → Option ℤ
scaled_side scaled spacing side = option_map (scaled_length scaled spacing) side

abbrev pub scaled_sides : Bool → List ℤ → List (Option ℤ) → List (Option ℤ)
scaled_sides scaled spacing sides =
    scaled_side scaled (x_of spacing) (slice_index_or sides 0 None)
    ∷ scaled_side scaled (y_of spacing) (slice_index_or sides 1 None)
    ∷ scaled_side scaled (z_of spacing) (slice_index_or sides 2 None)
    ∷ []

-- a length that is beyond the greatest that there may be
abbrev pub is_long : ℤ → Bool
is_long v = nat_lt (unsigned_abs MAX_POSITION) (unsigned_abs v)

abbrev pub is_long_vector : List ℤ → Bool
is_long_vector v = is_long (x_of v) || is_long (y_of v) || is_long (z_of v)

abbrev pub is_long_side : Option ℤ → Bool
is_long_side None = false
is_long_side (Some v) = is_long v

abbrev pub are_long_sides : List (Option ℤ) → Bool
are_long_sides sides = is_long_side (slice_index_or sides 0 None) || is_long_side (slice_index_or sides 1 None) || is_long_side (slice_index_or sides 2 None)

-- the region of a shape. The spacing along x scales a radius.
abbrev pub shaped : Bool → Bool → List ℤ → Shape → Region
shaped scaled inside spacing (shape.Block b) = space.Block (scaled_sides scaled spacing b.lo) (scaled_sides scaled spacing b.hi) inside
shaped scaled inside spacing (shape.Sphere p) = space.Sphere (scaled_vector scaled spacing p.centre) (scaled_length scaled (x_of spacing) p.radius) inside
shaped scaled inside spacing (shape.Union names) = space.Union names inside
shaped scaled inside spacing (shape.Intersect names) = space.Intersect names inside

abbrev pub region_of : Setup → NewRegion → Region
region_of setup r = shaped r.scaled r.inside (spacing_in setup.lattice) r.shape

-- one of its lengths is beyond the greatest
abbrev pub is_long_region : Region → Bool
is_long_region (space.Block lo hi inside) = are_long_sides lo || are_long_sides hi
is_long_region (space.Sphere centre radius inside) = is_long_vector centre || is_long radius
is_long_region (space.Union names inside) = false
is_long_region (space.Intersect names inside) = false

abbrev pub region_code : RegionRefusal → Code
region_code (refusal.UnknownRegion name) = code.UnknownName
region_code refusal.NameExists = code.NameExists
region_code refusal.NoMemory = code.NameExists

abbrev pub with_regions : Settings → List NamedRegion → Settings
with_regions s regions = record s { named = record s.named { regions = regions } }

abbrev pub region_added : Settings → List ℕ → Region → Option RegionRefusal → Result Settings Code
region_added s id new None = Ok (with_regions s (record { name = id; region = new } ∷ s.named.regions))
region_added s id new (Some why) = Err (region_code why)

abbrev pub region_named : Settings → List ℕ → Region → Result Settings Code
region_named s id new = cond (is_long_region new) (Err code.BadValue) (region_added s id new (add_fault s.named.regions id new))

-- `region`: a region more
abbrev pub region : NewRegion → Settings → Result Settings Code
region r s = region_named s r.id (region_of s.setup r)

-- a box without atoms, at step 0
abbrev pub unset_masses : ℕ → List ℤ
unset_masses zero = []
unset_masses (suc kinds) = pos 0 ∷ unset_masses kinds

abbrev pub empty_body : Setup → ℕ → ClosedBlock → Body
empty_body setup kinds b = record { step = 0; sides = sides_of b.lo b.hi setup.periodic setup.dim; mass = unset_masses kinds; atoms = []; bonds = []; angles = [] }

-- bounds that make no box come first, then that there is a box
abbrev pub box_of : Settings → ℕ → Option ClosedBlock → Result Settings Code
box_of s kinds (Some b) =
    cond (is_some (box_refusal b.lo b.hi)) (Err code.BadValue)
    (cond (is_some s.body) (Err code.BoxExists) (Ok (record s { body = Some (empty_body s.setup kinds b) })))
box_of s kinds None = cond (is_some s.body) (Err code.BoxExists) (Err code.WrongStyle)

-- `create_box`: the box of a region that is the inside of a block with all six sides
abbrev pub create_box : NewBox → Settings → Result Settings Code
create_box b s = cond (is_there s.named.regions b.region) (box_of s b.kinds (block_of s.named.regions b.region)) (Err code.UnknownName)

-- the greatest id of atoms, 0 without any
abbrev pub greatest_id : List Atom → ℕ
greatest_id atoms = fold (λ most (a : Atom). max most a.id) 0 atoms

-- atoms of a type at points, numbered from an id on, at rest
abbrev pub origin : List ℤ
origin = pos 0 ∷ pos 0 ∷ pos 0 ∷ []

abbrev pub atom_at : ℕ → ℕ → List ℤ → Atom
atom_at kind id x = record { id = id; mol = 0; kind = kind; x = x; v = origin; f = origin; image = origin }

abbrev pub atoms_at : ℕ → ℕ → List (List ℤ) → List Atom
atoms_at kind id [] = []
atoms_at kind id (x ∷ points) = atom_at kind id x ∷ atoms_at kind (id + 1) points

-- with atoms at these points, unless there would be too many atoms or ids
abbrev pub atoms_with : List Atom → ℕ → List (List ℤ) → Result (List Atom) Code
atoms_with atoms kind points =
    cond (nat_lt MAX_ATOMS (length atoms + length points) || nat_lt MAX_ID (greatest_id atoms + length points))
    (Err code.TooMany)
    (Ok (atoms ++ atoms_at kind (greatest_id atoms + 1) points))

abbrev pub with_atoms : Settings → Body → Result (List Atom) Code → Result Settings Code
with_atoms s b (Ok atoms) = Ok (record s { body = Some (record b { atoms = atoms }) })
with_atoms s b (Err why) = Err why

abbrev pub made_at : List Atom → ℕ → Result (List (List ℤ)) Code → Result (List Atom) Code
made_at atoms kind (Ok points) = atoms_with atoms kind points
made_at atoms kind (Err why) = Err why

-- the points of the lattice in the box, unless there are too many
abbrev pub not_many : List (List ℤ) → Result (List (List ℤ)) Code
not_many points = cond (nat_lt MAX_ATOMS (length points)) (Err code.TooMany) (Ok points)

abbrev pub on_lattice : Settings → Body → Option LatticeChoice → Result (List (List ℤ)) Code
on_lattice s b None = Err code.Unset
on_lattice s b (Some l) =
    cond (dim_of l.style == s.setup.dim) (not_many (points_of l.style (spacing_of_choice l) b.sides)) (Err code.WrongStyle)

-- those of them that a region holds; too many points in the box are told though few of them are in the region
abbrev pub in_region : List NamedRegion → List ℕ → Result (List (List ℤ)) Code → Result (List (List ℤ)) Code
in_region regions name (Ok points) = Ok (filter (holds regions name) points)
in_region regions name (Err why) = Err why

-- one point, if it is in the box
abbrev pub single_point : Settings → SinglePoint → List ℤ
single_point s p = scaled_vector p.scaled (spacing_in s.setup.lattice) p.x

abbrev pub at_point : Body → List ℤ → List (List ℤ)
at_point b x = cond (is_inside b.sides x) (x ∷ []) []

-- where atoms are made
abbrev pub places : Settings → Body → CreationSites → Result (List (List ℤ)) Code
places s b sites.Box = on_lattice s b s.setup.lattice
places s b (sites.Region name) = in_region s.named.regions name (on_lattice s b s.setup.lattice)
places s b (sites.Single p) = Ok (at_point b (single_point s p))

-- what is judged before it is asked whether there is a box: a length beyond the greatest, a type beyond those of the box, a region that isn't there
abbrev pub is_long_site : Settings → CreationSites → Bool
is_long_site s sites.Box = false
is_long_site s (sites.Region name) = false
is_long_site s (sites.Single p) = is_long_vector (single_point s p)

abbrev pub is_unknown_site : Settings → CreationSites → Bool
is_unknown_site s sites.Box = false
is_unknown_site s (sites.Region name) = not (is_there s.named.regions name)
is_unknown_site s (sites.Single p) = false

-- a type beyond those of the box, where there is a box
abbrev pub is_above_kinds : ℕ → Option Body → Bool
is_above_kinds kind None = false
is_above_kinds kind (Some b) = nat_lt (length b.mass) kind

abbrev pub created_in : Settings → Creation → Option Body → Result Settings Code
created_in s c None = Err code.NoBox
created_in s c (Some b) = with_atoms s b (made_at b.atoms c.kind (places s b c.sites))

-- `create_atoms`
abbrev pub create_atoms : Creation → Settings → Result Settings Code
create_atoms c s =
    cond (is_long_site s c.sites || is_above_kinds c.kind s.body) (Err code.BadValue)
    (cond (is_unknown_site s c.sites) (Err code.UnknownName) (created_in s c s.body))
