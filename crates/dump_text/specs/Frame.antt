-- A dump frame: lines that tell the step, the number of the group's atoms, the box and the columns, then a row for each atom of the group, in order of id (after the manual's page on `dump`).
--
-- Words are parted by one space, and each line ends with a line feed. Ids, molecules, atom types and image counts are whole numbers; masses, positions, velocities, forces and bounds are fixed numbers, with eight decimals; a scaled position is its distance from the lower bound as a part of the edge.
use Rattle.std.specs.Prelude.{◌≡◌, ◌≤◌, ◌==◌, true, cond, codes, ℕ, ℤ, ◌-ℤ◌, unsigned_abs, List, [], ◌∷◌, ◌++◌, length, map, filter}
use Rattle.std.specs.Fmt.{decimal, signed_decimal}
use Rattle.std.specs.List.{flat_map, join_with_byte}
use Rattle.fx_num.specs.Print.{fix_text, scaled_text}
use Rattle.box_geo.specs.declared.atoms.Atom.{Atom}
use Rattle.box_geo.specs.declared.sim_box.Extent.{Extent}
use Rattle.box_geo.specs.declared.sim_box.Sides.{Sides}
use Rattle.box_geo.specs.Ids.{is_among}
use Rattle.box_geo.specs.Sides.{edge, x_of, y_of, z_of}
use Rattle.computes.specs.Quantities.{mass_at}
use Rattle.dump_text.specs.declared.columns.Column.{Column}
use Rattle.dump_text.specs.declared.columns.Column.TheVariants.{Id, Mol, Kind, Mass, X, Y, Z, Xs, Ys, Zs, Ix, Iy, Iz, Vx, Vy, Vz, Fx, Fy, Fz}
use Rattle.dump_text.specs.Columns.{keyword_of}

-- a line with its line feed
abbrev pub line_text : List ℕ → List ℕ
line_text line = line ++ 10 ∷ []

-- lines as one text
abbrev pub lines_text : List (List ℕ) → List ℕ
lines_text lines = flat_map line_text lines

-- words as one line
abbrev pub words_text : List (List ℕ) → List ℕ
words_text words = join_with_byte 32 words

-- what parts the word at a place, counted from 0, from those before it
abbrev pub separator_at : ℕ → List ℕ
separator_at place = cond (place == 0) [] (32 ∷ [])

-- where a position is along an axis: (x - lo)/L
abbrev pub scaled_along : Extent → ℤ → List ℕ
scaled_along e x = scaled_text (unsigned_abs (x -ℤ e.lo)) (unsigned_abs (edge e))

-- the atom's type has a place in the list of masses
abbrev pub HasKind : List ℤ → Atom → Type 0
HasKind masses a = (1 ≤ a.kind) × (a.kind ≤ length masses)

-- the word of a column in an atom's row
abbrev pub cell_text : Sides → List ℤ → Atom → Column → List ℕ
cell_text s masses a Id = decimal a.id
cell_text s masses a Mol = decimal a.mol
cell_text s masses a Kind = decimal a.kind
cell_text s masses a Mass = fix_text (mass_at masses a.kind)
cell_text s masses a X = fix_text (x_of a.x)
cell_text s masses a Y = fix_text (y_of a.x)
cell_text s masses a Z = fix_text (z_of a.x)
cell_text s masses a Xs = scaled_along s.x (x_of a.x)
cell_text s masses a Ys = scaled_along s.y (y_of a.x)
cell_text s masses a Zs = scaled_along s.z (z_of a.x)
cell_text s masses a Ix = signed_decimal (x_of a.image)
cell_text s masses a Iy = signed_decimal (y_of a.image)
cell_text s masses a Iz = signed_decimal (z_of a.image)
cell_text s masses a Vx = fix_text (x_of a.v)
cell_text s masses a Vy = fix_text (y_of a.v)
cell_text s masses a Vz = fix_text (z_of a.v)
cell_text s masses a Fx = fix_text (x_of a.f)
cell_text s masses a Fy = fix_text (y_of a.f)
cell_text s masses a Fz = fix_text (z_of a.f)

-- an atom's row
unfoldable pub row_text : Sides → List ℤ → List Column → Atom → List ℕ
row_text s masses columns a = words_text (map (cell_text s masses a) columns)

unfoldable pub rows_text : Sides → List ℤ → List Column → List Atom → List ℕ
rows_text s masses columns atoms = lines_text (map (row_text s masses columns) atoms)

-- the ids of atoms
abbrev pub ids_of : List Atom → List ℕ
ids_of atoms = map (λ a. a.id) atoms

-- the atoms that have one of these ids
abbrev pub members : List ℕ → List Atom → List Atom
members ids atoms = filter (λ a. is_among ids a.id) atoms

-- each of these ids is that of an atom
abbrev pub AreOf : List ℕ → List Atom → Type 0
AreOf ids atoms = (id : ℕ) → is_among ids id ≡ true → is_among (ids_of atoms) id ≡ true

-- the step, and the number of the group's atoms
abbrev pub count_lines : ℕ → ℕ → List (List ℕ)
count_lines step count = codes "ITEM: TIMESTEP" ∷ decimal step ∷ codes "ITEM: NUMBER OF ATOMS" ∷ decimal count ∷ []

-- both bounds of an axis are periodic, or fixed
abbrev pub boundary_text : Extent → List ℕ
boundary_text e = cond e.periodic (codes "pp") (codes "ff")

unfoldable pub boundaries_text : Sides → List ℕ
boundaries_text s = codes "ITEM: BOX BOUNDS " ++ words_text (boundary_text s.x ∷ boundary_text s.y ∷ boundary_text s.z ∷ [])

-- lo hi
unfoldable pub bounds_text : Extent → List ℕ
bounds_text e = words_text (fix_text e.lo ∷ fix_text e.hi ∷ [])

abbrev pub box_lines : Sides → List (List ℕ)
box_lines s = boundaries_text s ∷ bounds_text s.x ∷ bounds_text s.y ∷ bounds_text s.z ∷ []

unfoldable pub columns_text : List Column → List ℕ
columns_text columns = codes "ITEM: ATOMS " ++ words_text (map keyword_of columns)

-- the lines before the rows
unfoldable pub header_text : ℕ → ℕ → Sides → List Column → List ℕ
header_text step count s columns = lines_text (count_lines step count ++ box_lines s ++ columns_text columns ∷ [])

-- the frame of the atoms that have one of these ids
unfoldable pub frame_text : ℕ → Sides → List ℤ → List Atom → List ℕ → List Column → List ℕ
frame_text step s masses atoms ids columns =
    header_text step (length (members ids atoms)) s columns ++ rows_text s masses columns (members ids atoms)
