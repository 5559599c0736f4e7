-- A written data file (after the manual's pages on `write_data` and `read_data`): a first line that names the step; the counts of atoms and
-- of atom types, and for every style but atomic those of bonds, bond types, angles and angle types; the bounds of the box; then the sections,
-- each a title, an empty line and its rows. An empty line stands before the counts, before the bounds and before each title, and a section
-- without rows is left out.
--
-- Words are parted by one space, and each line ends with a line feed. Ids, molecules, types, counts and image counts are whole numbers;
-- masses, positions, velocities and bounds are fixed numbers, with eight decimals.
use Rattle.std.specs.Prelude.{Bool, true, false, cond, codes, ℕ, ℤ, pos, int_lt, max, List, [], ◌∷◌, ◌++◌, length, map}
use Rattle.std.specs.Fmt.{decimal, signed_decimal}
use Rattle.std.specs.List.{enumerate_from, flat_map, fold, join_with_byte, list_all}
use Rattle.fx_num.specs.Print.{fix_text}
use Rattle.box_geo.specs.declared.atoms.Angle.{Angle}
use Rattle.box_geo.specs.declared.atoms.Atom.{Atom}
use Rattle.box_geo.specs.declared.atoms.Bond.{Bond}
use Rattle.box_geo.specs.declared.sim_box.Extent.{Extent}
use Rattle.box_geo.specs.declared.sim_box.Sides.{Sides}
use Rattle.box_geo.specs.declared.styles.AtomStyle.{AtomStyle}
use Rattle.box_geo.specs.declared.styles.AtomStyle.TheVariants as style
use Rattle.box_geo.specs.Sides.{x_of, y_of, z_of}

-- a line with its line feed
abbrev pub line_text : List ℕ → List ℕ
line_text line = line ++ 10 ∷ []

-- lines as one text
abbrev pub lines_text : List (List ℕ) → List ℕ
lines_text lines = flat_map line_text lines

-- words as one line
abbrev pub words_text : List (List ℕ) → List ℕ
words_text words = join_with_byte 32 words

-- words that follow others in a line: each behind its space
abbrev pub spaced : List (List ℕ) → List ℕ
spaced words = flat_map (λ (word : List ℕ). 32 ∷ word) words

-- the first line
unfoldable pub first_line : ℕ → List ℕ
first_line step = codes "LAMMPS data file by fxlmp at step " ++ decimal step

-- atoms of every style but atomic have a molecule, and there may be bonds and angles
abbrev pub is_molecular : AtomStyle → Bool
is_molecular style.Atomic = false
is_molecular style.Bond = true
is_molecular style.Angle = true
is_molecular style.Molecular = true

-- the style's word
abbrev pub style_text : AtomStyle → List ℕ
style_text style.Atomic = codes "atomic"
style_text style.Bond = codes "bond"
style_text style.Angle = codes "angle"
style_text style.Molecular = codes "molecular"

-- a count, and what it counts
unfoldable pub count_line : ℕ → List ℕ → List ℕ
count_line count name = words_text (decimal count ∷ name ∷ [])

abbrev pub atom_counts : List ℤ → List Atom → List (List ℕ)
atom_counts masses atoms = count_line (length atoms) (codes "atoms") ∷ count_line (length masses) (codes "atom types") ∷ []

-- the greatest type of bonds, 0 without any
unfoldable pub bond_types : List Bond → ℕ
bond_types bonds = fold (λ most (b : Bond). max most b.kind) 0 bonds

-- the greatest type of angles, 0 without any
unfoldable pub angle_types : List Angle → ℕ
angle_types angles = fold (λ most (a : Angle). max most a.kind) 0 angles

unfoldable pub bond_counts : List Bond → List (List ℕ)
bond_counts bonds = count_line (length bonds) (codes "bonds") ∷ count_line (bond_types bonds) (codes "bond types") ∷ []

unfoldable pub angle_counts : List Angle → List (List ℕ)
angle_counts angles = count_line (length angles) (codes "angles") ∷ count_line (angle_types angles) (codes "angle types") ∷ []

-- the counts of bonds and angles, which style atomic has none of
unfoldable pub bonded_counts : AtomStyle → List Bond → List Angle → List (List ℕ)
bonded_counts s bonds angles = cond (is_molecular s) (bond_counts bonds ++ angle_counts angles) []

-- the bounds of an axis, and their names
unfoldable pub side_line : Extent → List ℕ → List ℕ
side_line e names = words_text (fix_text e.lo ∷ fix_text e.hi ∷ names ∷ [])

unfoldable pub box_lines : Sides → List (List ℕ)
box_lines s = side_line s.x (codes "xlo xhi") ∷ side_line s.y (codes "ylo yhi") ∷ side_line s.z (codes "zlo zhi") ∷ []

-- the lines before the sections
unfoldable pub header_lines : ℕ → Sides → List ℤ → List Atom → List Bond → List Angle → AtomStyle → List (List ℕ)
header_lines step sides masses atoms bonds angles s =
    first_line step ∷ [] ∷ atom_counts masses atoms ++ bonded_counts s bonds angles ++ [] ∷ box_lines sides

-- a section: an empty line, its title, an empty line, its rows; none without rows
abbrev pub section_lines : List ℕ → List (List ℕ) → List (List ℕ)
section_lines title [] = []
section_lines title (row ∷ rows) = [] ∷ title ∷ [] ∷ row ∷ rows

-- a vector of numbers in units
abbrev pub vector_words : List ℤ → List (List ℕ)
vector_words v = fix_text (x_of v) ∷ fix_text (y_of v) ∷ fix_text (z_of v) ∷ []

-- a vector of image counts
abbrev pub image_words : List ℤ → List (List ℕ)
image_words v = signed_decimal (x_of v) ∷ signed_decimal (y_of v) ∷ signed_decimal (z_of v) ∷ []

-- whether each type has a mass, which is 0 where it is not set
abbrev pub are_set : List ℤ → Bool
are_set masses = list_all (λ m. int_lt (pos 0) m) masses

-- type, mass
unfoldable pub mass_row : ℕ × ℤ → List ℕ
mass_row r = words_text (decimal r.0 ∷ fix_text r.1 ∷ [])

-- the masses of the types from 1 on, where all are set
unfoldable pub mass_rows : List ℤ → List (List ℕ)
mass_rows masses = cond (are_set masses) (map mass_row (enumerate_from 1 masses)) []

-- the molecule, in styles that have them
abbrev pub molecule_words : AtomStyle → Atom → List (List ℕ)
molecule_words s a = cond (is_molecular s) (decimal a.mol ∷ []) []

-- id, molecule where the style has them, type, position, image counts
unfoldable pub atom_row : AtomStyle → Atom → List ℕ
atom_row s a = words_text (decimal a.id ∷ molecule_words s a ++ decimal a.kind ∷ vector_words a.x ++ image_words a.image)

-- id, velocity
unfoldable pub velocity_row : Atom → List ℕ
velocity_row a = words_text (decimal a.id ∷ vector_words a.v)

-- number, type, the two atoms
unfoldable pub bond_row : ℕ × Bond → List ℕ
bond_row r = words_text (decimal r.0 ∷ decimal r.1.kind ∷ decimal r.1.a ∷ decimal r.1.b ∷ [])

-- number, type, the three atoms, the centre in the middle
unfoldable pub angle_row : ℕ × Angle → List ℕ
angle_row r = words_text (decimal r.0 ∷ decimal r.1.kind ∷ decimal r.1.a ∷ decimal r.1.b ∷ decimal r.1.c ∷ [])

-- the sections, each from what it lists; bonds and angles are numbered from 1, in their order
unfoldable pub mass_lines : List ℤ → List (List ℕ)
mass_lines masses = section_lines (codes "Masses") (mass_rows masses)

-- the title of the atoms names the style
unfoldable pub atom_lines : AtomStyle → List Atom → List (List ℕ)
atom_lines s atoms = section_lines (codes "Atoms # " ++ style_text s) (map (atom_row s) atoms)

unfoldable pub velocity_lines : List Atom → List (List ℕ)
velocity_lines atoms = section_lines (codes "Velocities") (map velocity_row atoms)

unfoldable pub bond_lines : List Bond → List (List ℕ)
bond_lines bonds = section_lines (codes "Bonds") (map bond_row (enumerate_from 1 bonds))

unfoldable pub angle_lines : List Angle → List (List ℕ)
angle_lines angles = section_lines (codes "Angles") (map angle_row (enumerate_from 1 angles))

-- the lines of a written data file, of a box, masses by type, atoms in order of id, bonds and angles
unfoldable pub data_lines : ℕ → Sides → List ℤ → List Atom → List Bond → List Angle → AtomStyle → List (List ℕ)
data_lines step sides masses atoms bonds angles s =
    header_lines step sides masses atoms bonds angles s
    ++ mass_lines masses ++ atom_lines s atoms ++ velocity_lines atoms ++ bond_lines bonds ++ angle_lines angles

-- the written data file as one text
unfoldable pub data_text : ℕ → Sides → List ℤ → List Atom → List Bond → List Angle → AtomStyle → List ℕ
data_text step sides masses atoms bonds angles s = lines_text (data_lines step sides masses atoms bonds angles s)
