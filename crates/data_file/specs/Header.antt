-- The header: lines in any order, each at most once. A line is known by its last words.
use Rattle.std.specs.Prelude.{◌≡◌, ◌-◌, ◌^◌, ◌==◌, ◌&&◌, Bool, true, false, cond, is_some, ℕ, ℤ, neg_ℤ, Option, Some, None, Result, Ok, Err, List, length, codes, slice_index_or, unwrap_or}
use Rattle.std.specs.Option.{option_or}
use Rattle.std.specs.Str.{bytes_eq}
use Rattle.box_geo.specs.declared.limits.TheConstants.{MAX_ATOMS, MAX_BONDS, MAX_BOUND, MAX_KINDS}
use Rattle.box_geo.specs.declared.sim_box.Axis.{Axis}
use Rattle.box_geo.specs.declared.sim_box.Axis.TheVariants.{X, Y, Z}
use Rattle.box_geo.specs.declared.sim_box.BoxRefusal.{BoxRefusal}
use Rattle.box_geo.specs.declared.sim_box.Extent.{Extent}
use Rattle.box_geo.specs.declared.sim_box.Sides.{Sides}
use Rattle.box_geo.specs.Sides.{extent_of, extent_refusal}
use Rattle.data_file.specs.declared.fault.DataFault.{DataFault}
use Rattle.data_file.specs.declared.fault.DataFault.TheVariants as fault
use Rattle.data_file.specs.declared.header.Header.{Header}
use Rattle.data_file.specs.declared.keywords.Keyword.{Keyword}
use Rattle.data_file.specs.declared.keywords.Keyword.TheVariants as keyword
use Rattle.data_file.specs.Fields.{both, decimal_field, made, whole_field}
use Rattle.data_file.specs.Words.{word}

-- whether the word so many places before the end is this text
unfoldable pub ends : ℕ → List ℕ → List (List ℕ) → Bool
ends before text words = bytes_eq (word (length words - before) words) text

abbrev pub count_keyword : List (List ℕ) → Option Keyword
count_keyword words =
    cond (ends 1 (codes "atoms") words) (Some keyword.Atoms)
    (cond (ends 1 (codes "bonds") words) (Some keyword.Bonds)
    (cond (ends 1 (codes "angles") words) (Some keyword.Angles) None))

abbrev pub types_keyword : List (List ℕ) → Option Keyword
types_keyword words =
    cond (ends 1 (codes "types") words)
    (cond (ends 2 (codes "atom") words) (Some keyword.AtomTypes)
    (cond (ends 2 (codes "bond") words) (Some keyword.BondTypes)
    (cond (ends 2 (codes "angle") words) (Some keyword.AngleTypes) None)))
    None

abbrev pub side_keyword : List (List ℕ) → Option Keyword
side_keyword words =
    cond (ends 2 (codes "xlo") words && ends 1 (codes "xhi") words) (Some keyword.SideX)
    (cond (ends 2 (codes "ylo") words && ends 1 (codes "yhi") words) (Some keyword.SideY)
    (cond (ends 2 (codes "zlo") words && ends 1 (codes "zhi") words) (Some keyword.SideZ) None))

-- lines that say that there is none of something
abbrev pub effectless_keyword : List (List ℕ) → Option Keyword
effectless_keyword words =
    cond (ends 2 (codes "0") words && ends 1 (codes "dihedrals") words) (Some keyword.Dihedrals)
    (cond (ends 2 (codes "0") words && ends 1 (codes "impropers") words) (Some keyword.Impropers)
    (cond (ends 3 (codes "0") words && ends 1 (codes "types") words && ends 2 (codes "dihedral") words) (Some keyword.DihedralTypes)
    (cond (ends 3 (codes "0") words && ends 1 (codes "types") words && ends 2 (codes "improper") words) (Some keyword.ImproperTypes) None)))

-- lines that ask for more room: `extra`, what for, `per atom`
abbrev pub extra_keyword : List (List ℕ) → Option Keyword
extra_keyword words =
    cond (ends 2 (codes "per") words && ends 1 (codes "atom") words && ends 4 (codes "extra") words)
    (cond (ends 3 (codes "bond") words) (Some keyword.ExtraBond)
    (cond (ends 3 (codes "angle") words) (Some keyword.ExtraAngle)
    (cond (ends 3 (codes "special") words) (Some keyword.ExtraSpecial) None)))
    None

-- the header line that a line is by its last words
unfoldable pub keyword_of : List (List ℕ) → Option Keyword
keyword_of words =
    option_or (option_or (option_or (option_or (count_keyword words) (types_keyword words)) (side_keyword words)) (effectless_keyword words)) (extra_keyword words)

abbrev pub empty : Header
empty = record { atoms = None; bonds = None; angles = None; atom_types = None; bond_types = None; angle_types = None; x = None; y = None; z = None; dihedrals = false; impropers = false; dihedral_types = false; improper_types = false; extra_bond = false; extra_angle = false; extra_special = false }

-- a call that changes something makes what is meant, or refuses with the fault that is meant
abbrev pub Makes : {A U : Type 0} → Result A DataFault → Result U DataFault → A → Type 0
Makes meant (Ok u) new = meant ≡ Ok new
Makes meant (Err why) new = meant ≡ Err why

-- what is judged behind something that may be refused
abbrev pub then : {A B : Type 0} → Result A DataFault → (A → Result B DataFault) → Result B DataFault
then (Ok a) f = f a
then (Err why) f = Err why

-- so many words
abbrev pub counted : {A : Type 0} → ℕ → List (List ℕ) → Result A DataFault → Result A DataFault
counted count words judged = cond (length words == count) judged (Err fault.Count)

-- a value that is given at most once
abbrev pub once : {A : Type 0} → Bool → A → Result A DataFault
once given a = cond given (Err fault.Twice) (Ok a)

-- a line of a number, and so many words behind it
unfoldable pub number_line : ℕ → Bool → ℕ → ℕ → List (List ℕ) → Result ℕ DataFault
number_line count given low high words = counted count words (then (whole_field low high (word 0 words)) (once given))

abbrev pub side_with : Option BoxRefusal → Extent → Result Extent DataFault
side_with (Some why) extent = Err fault.Limit
side_with None extent = Ok extent

-- a line of the bounds of an axis
unfoldable pub side_line : Axis → Bool → Bool → List (List ℕ) → Result Extent DataFault
side_line axis given periodic words =
    counted 4 words (then (both (decimal_field (neg_ℤ MAX_BOUND) MAX_BOUND (word 0 words)) (decimal_field (neg_ℤ MAX_BOUND) MAX_BOUND (word 1 words))) (λ (b : ℤ × ℤ).
    then (side_with (extent_refusal axis b.0 b.1) (extent_of b.0 b.1 periodic)) (once given)))

-- a line of fixed words
unfoldable pub fixed_line : ℕ → Bool → List (List ℕ) → Result Bool DataFault
fixed_line count given words = counted count words (once given true)

-- a line of any whole number and four words
abbrev pub extra_line : Bool → List (List ℕ) → Result ℕ DataFault
extra_line given words = number_line 5 given 0 (2 ^ 64 - 1) words

-- what a header line says besides the lines before it
abbrev pub with_keyword : Option Keyword → List Bool → Header → List (List ℕ) → Result Header DataFault
with_keyword None periodic h words = Err fault.NotALine
with_keyword (Some keyword.Atoms) periodic h words = made (λ n. record h { atoms = Some n }) (number_line 2 (is_some h.atoms) 0 MAX_ATOMS words)
with_keyword (Some keyword.Bonds) periodic h words = made (λ n. record h { bonds = Some n }) (number_line 2 (is_some h.bonds) 0 MAX_BONDS words)
with_keyword (Some keyword.Angles) periodic h words = made (λ n. record h { angles = Some n }) (number_line 2 (is_some h.angles) 0 MAX_BONDS words)
with_keyword (Some keyword.AtomTypes) periodic h words = made (λ n. record h { atom_types = Some n }) (number_line 3 (is_some h.atom_types) 1 MAX_KINDS words)
with_keyword (Some keyword.BondTypes) periodic h words = made (λ n. record h { bond_types = Some n }) (number_line 3 (is_some h.bond_types) 0 MAX_KINDS words)
with_keyword (Some keyword.AngleTypes) periodic h words = made (λ n. record h { angle_types = Some n }) (number_line 3 (is_some h.angle_types) 0 MAX_KINDS words)
with_keyword (Some keyword.SideX) periodic h words = made (λ e. record h { x = Some e }) (side_line X (is_some h.x) (slice_index_or periodic 0 false) words)
with_keyword (Some keyword.SideY) periodic h words = made (λ e. record h { y = Some e }) (side_line Y (is_some h.y) (slice_index_or periodic 1 false) words)
with_keyword (Some keyword.SideZ) periodic h words = made (λ e. record h { z = Some e }) (side_line Z (is_some h.z) (slice_index_or periodic 2 false) words)
with_keyword (Some keyword.Dihedrals) periodic h words = made (λ b. record h { dihedrals = b }) (fixed_line 2 h.dihedrals words)
with_keyword (Some keyword.Impropers) periodic h words = made (λ b. record h { impropers = b }) (fixed_line 2 h.impropers words)
with_keyword (Some keyword.DihedralTypes) periodic h words = made (λ b. record h { dihedral_types = b }) (fixed_line 3 h.dihedral_types words)
with_keyword (Some keyword.ImproperTypes) periodic h words = made (λ b. record h { improper_types = b }) (fixed_line 3 h.improper_types words)
with_keyword (Some keyword.ExtraBond) periodic h words = made (λ n. record h { extra_bond = true }) (extra_line h.extra_bond words)
with_keyword (Some keyword.ExtraAngle) periodic h words = made (λ n. record h { extra_angle = true }) (extra_line h.extra_angle words)
with_keyword (Some keyword.ExtraSpecial) periodic h words = made (λ n. record h { extra_special = true }) (extra_line h.extra_special words)

unfoldable pub header_line : List Bool → Header → List (List ℕ) → Result Header DataFault
header_line periodic h words = with_keyword (keyword_of words) periodic h words

-- the header has the lines that are needed: the sides of the box, and the atom types
abbrev pub is_complete : Header → Bool
is_complete h = is_some h.x && is_some h.y && is_some h.z && is_some h.atom_types

-- the sides of the box, where the header has them
abbrev pub sides_with : ℕ → Option Extent → Option Extent → Option Extent → Option Sides
sides_with dim (Some x) (Some y) (Some z) = Some record { x = x; y = y; z = z; dim = dim }
sides_with dim x y z = None

unfoldable pub sides_of : ℕ → Header → Option Sides
sides_of dim h = sides_with dim h.x h.y h.z

-- a number that the header gives, or 0
abbrev pub given_or_zero : Option ℕ → ℕ
given_or_zero n = unwrap_or n 0
