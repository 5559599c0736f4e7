-- Lattices, regions, the box and its atoms.
use Rattle.std.specs.Prelude.{◌||◌, ◌+◌, ◌-◌, Bool, true, false, cond, unwrap_or, ℕ, ℤ, nat_lt, Option, Some, None, Result, Ok, Err, List, [], ◌∷◌, length, take, drop}
use Rattle.std.specs.Str.{bytes_eq}
use Rattle.box_geo.specs.declared.limits.TheConstants.{MAX_KINDS}
use Rattle.box_geo.specs.declared.styles.LatticeStyle.{LatticeStyle}
use Rattle.box_geo.specs.declared.styles.LatticeStyle.TheVariants as style
use Rattle.fx_num.specs.Decimal.{read_count}
use Rattle.fx_num.specs.declared.decimal.NumError.{NumError}
use Rattle.command_words.specs.Values.{any_number, number, number_or, says, then, value_place, whole, word}
use Rattle.command_words.specs.Vocabulary.{text_of}
use Rattle.fx_num.specs.declared.decimal.TheConstants.{MAX_UNITS}
use Rattle.std.specs.Prelude.{neg_ℤ}
use Rattle.command_words.specs.declared.limits.TheConstants.{MAX_DENSITY, MIN_DENSITY}
use Rattle.command_words.specs.declared.lattice.Block.{Block}
use Rattle.command_words.specs.declared.lattice.Counts.{Counts}
use Rattle.command_words.specs.declared.lattice.CreationSites.TheVariants as sites
use Rattle.command_words.specs.declared.lattice.Shape.{Shape}
use Rattle.command_words.specs.declared.lattice.Shape.TheVariants as shape
use Rattle.command_words.specs.declared.lattice.Sides.{Sides}
use Rattle.command_words.specs.declared.lattice.Sphere.{Sphere}
use Rattle.command_words.specs.declared.vocabulary.Word.{Word}
use Rattle.command_words.specs.declared.vocabulary.Word.TheVariants as name
use Rattle.command_words.specs.declared.vocabulary.Words.TheVariants.{Open}
use Rattle.command_words.specs.declared.lattice.LatticeForm.{LatticeForm}
use Rattle.command_words.specs.declared.lattice.LatticeForm.TheVariants as form
use Rattle.command_words.specs.declared.lattice.TheConstants.{LATTICE, REGION_BLOCK, REGION_SPHERE, REGION_UNION, REGION_INTERSECT, CREATE_BOX, CREATE_ATOMS_BOX, CREATE_ATOMS_REGION, CREATE_ATOMS_SINGLE}
use Rattle.command_words.specs.declared.places.Place.{Place}
use Rattle.command_words.specs.declared.command.Command.{Command}
use Rattle.command_words.specs.declared.command.Command.TheVariants as command
use Rattle.command_words.specs.declared.refusal.WordRefusal.{WordRefusal}
use Rattle.command_words.specs.declared.refusal.WordRefusal.TheVariants.{BadValue}

-- the places of a form
abbrev pub places : LatticeForm → List Place
places form.Lattice = LATTICE.now
places form.RegionBlock = REGION_BLOCK.now
places form.RegionSphere = REGION_SPHERE.now
places form.RegionUnion = REGION_UNION.now
places form.RegionIntersect = REGION_INTERSECT.now
places form.CreateBox = CREATE_BOX.now
places form.CreateAtomsBox = CREATE_ATOMS_BOX.now
places form.CreateAtomsRegion = CREATE_ATOMS_REGION.now
places form.CreateAtomsSingle = CREATE_ATOMS_SINGLE.now

-- the lattice of a word
abbrev pub lattice_style : List ℕ → LatticeStyle
lattice_style text =
    cond (bytes_eq text (text_of name.Sc)) style.Sc
    (cond (bytes_eq text (text_of name.Bcc)) style.Bcc
    (cond (bytes_eq text (text_of name.Fcc)) style.Fcc
    (cond (bytes_eq text (text_of name.Diamond)) style.Diamond
    (cond (bytes_eq text (text_of name.Sq)) style.Sq (cond (bytes_eq text (text_of name.Sq2)) style.Sq2 style.Hex)))))

abbrev pub lattice : List (List ℕ) → Result Command WordRefusal
lattice words =
    then (number 2 MIN_DENSITY MAX_DENSITY words) (λ rho. Ok (command.Lattice record { style = lattice_style (word 1 words); density = rho }))

-- the options of regions: lengths are scaled by the lattice, and a region is the inside of its shape, unless it is said otherwise
abbrev pub is_scaled : ℕ → List (List ℕ) → Bool
is_scaled from words = unwrap_or (says name.Units name.Lattice from words) true

abbrev pub is_inside : ℕ → List (List ℕ) → Bool
is_inside from words = unwrap_or (says name.Side name.In from words) true

abbrev pub region_of : Shape → ℕ → List (List ℕ) → Command
region_of shape from words =
    command.Region record { id = word 1 words; shape = shape; inside = is_inside from words; scaled = is_scaled from words }

-- a block: the lower and the upper side along each axis, `INF` and `EDGE` for open ones
abbrev pub side : ℕ → List (List ℕ) → Result (Option ℤ) WordRefusal
side place words = number_or Open place (neg_ℤ MAX_UNITS) MAX_UNITS words

abbrev pub sides_in : ℕ → ℕ → List (List ℕ) → Result Sides WordRefusal
sides_in lo hi words = then (side lo words) (λ a. then (side hi words) (λ b. Ok record { lo = a; hi = b }))

abbrev pub block_in : List (List ℕ) → Result Block WordRefusal
block_in words =
    then (sides_in 3 4 words) (λ x. then (sides_in 5 6 words) (λ y. then (sides_in 7 8 words) (λ z.
    Ok record { lo = x.lo ∷ y.lo ∷ z.lo ∷ []; hi = x.hi ∷ y.hi ∷ z.hi ∷ [] })))

abbrev pub region_block : List (List ℕ) → Result Command WordRefusal
region_block words = then (block_in words) (λ b. Ok (region_of (shape.Block b) 9 words))

-- a sphere: its centre and its radius
abbrev pub vector : ℕ → ℕ → ℕ → List (List ℕ) → Result (List ℤ) WordRefusal
vector x y z words =
    then (any_number x words) (λ a. then (any_number y words) (λ b. then (any_number z words) (λ c. Ok (a ∷ b ∷ c ∷ []))))

abbrev pub sphere_in : List (List ℕ) → Result Sphere WordRefusal
sphere_in words = then (vector 3 4 5 words) (λ x. then (any_number 6 words) (λ r. Ok record { centre = x; radius = r }))

abbrev pub region_sphere : List (List ℕ) → Result Command WordRefusal
region_sphere words = then (sphere_in words) (λ s. Ok (region_of (shape.Sphere s) 7 words))

-- a union or an intersection of as many regions as a number tells
abbrev pub number_or_none : Result ℕ NumError → ℕ
number_or_none (Ok n) = n
number_or_none (Err e) = 0

abbrev pub id_count : List (List ℕ) → ℕ
id_count words = number_or_none (read_count (word 3 words))

abbrev pub counted_ids : List (List ℕ) → List (List ℕ)
counted_ids words = take (id_count words) (drop 4 words)

abbrev pub region_union : List (List ℕ) → Command
region_union words = region_of (shape.Union (counted_ids words)) (length (counted_ids words) + 4) words

abbrev pub region_intersect : List (List ℕ) → Command
region_intersect words = region_of (shape.Intersect (counted_ids words)) (length (counted_ids words) + 4) words

-- `create_box`: the first number of its options that is outside its limit
abbrev pub is_above : Result ℕ NumError → Bool
is_above (Ok n) = nat_lt MAX_KINDS n
is_above (Err e) = true

abbrev pub is_excess : List ℕ → List ℕ → Bool
is_excess option value =
    cond (bytes_eq option (text_of name.BondTypes) || bytes_eq option (text_of name.AngleTypes)) (is_above (read_count value)) false

abbrev pub first_excess : ℕ → List (List ℕ) → Option ℕ
first_excess n [] = None
first_excess n (option ∷ []) = None
first_excess n (option ∷ value ∷ words) = cond (is_excess option value) (Some (n - (length words + 1))) (first_excess n words)

abbrev pub box_excess : List (List ℕ) → Option ℕ
box_excess words = first_excess (length words) (drop 3 words)

abbrev pub unless_bad : {X : Type 0} → Option ℕ → Result X WordRefusal → Result X WordRefusal
unless_bad None next = next
unless_bad (Some place) next = Err (BadValue place)

-- how many types an option tells; 0 without it
abbrev pub kinds_at : Option ℕ → List (List ℕ) → Result ℕ WordRefusal
kinds_at None words = Ok 0
kinds_at (Some place) words = whole place 0 MAX_KINDS words

abbrev pub kinds_option : Word → List (List ℕ) → Result ℕ WordRefusal
kinds_option option words = kinds_at (value_place option 3 words) words

abbrev pub box_counts : List (List ℕ) → Result Counts WordRefusal
box_counts words =
    then (whole 1 1 MAX_KINDS words) (λ n. unless_bad (box_excess words)
    (then (kinds_option name.BondTypes words) (λ b. then (kinds_option name.AngleTypes words) (λ a.
    Ok record { kinds = n; bonds = b; angles = a }))))

abbrev pub create_box : List (List ℕ) → Result Command WordRefusal
create_box words =
    then (box_counts words) (λ n.
    Ok (command.CreateBox record { kinds = n.kinds; region = word 2 words; bond_kinds = n.bonds; angle_kinds = n.angles }))

-- `create_atoms`: the type, and where the atoms are
abbrev pub kind : List (List ℕ) → Result ℕ WordRefusal
kind words = whole 1 1 MAX_KINDS words

abbrev pub create_all : List (List ℕ) → Result Command WordRefusal
create_all words = then (kind words) (λ n. Ok (command.CreateAtoms record { kind = n; sites = sites.Box }))

abbrev pub create_region : List (List ℕ) → Result Command WordRefusal
create_region words = then (kind words) (λ n. Ok (command.CreateAtoms record { kind = n; sites = sites.Region (word 3 words) }))

abbrev pub create_single : List (List ℕ) → Result Command WordRefusal
create_single words =
    then (kind words) (λ n. then (vector 3 4 5 words) (λ x.
    Ok (command.CreateAtoms record { kind = n; sites = sites.Single record { x = x; scaled = is_scaled 6 words } })))

-- the command of the words of a form
abbrev pub make : LatticeForm → List (List ℕ) → Result Command WordRefusal
make form.Lattice words = lattice words
make form.RegionBlock words = region_block words
make form.RegionSphere words = region_sphere words
make form.RegionUnion words = Ok (region_union words)
make form.RegionIntersect words = Ok (region_intersect words)
make form.CreateBox words = create_box words
make form.CreateAtomsBox words = create_all words
make form.CreateAtomsRegion words = create_region words
make form.CreateAtomsSingle words = create_single words
