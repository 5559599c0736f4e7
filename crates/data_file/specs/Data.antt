-- What a data file says, line by line: the header, then sections, each a title and its rows. The first line is skipped, and so are lines
-- without words. The first line that the format does not allow after the lines before it is told, with its first fault; where something is
-- missing at the end, it is the last line plus 1.
use Rattle.std.specs.Prelude.{◌≡◌, ◌==◌, ◌&&◌, ◌||◌, ◌+◌, ◌++◌, Bool, true, not, cond, nat_lt, ℕ, ℤ, Option, Some, None, Result, Ok, Err, List, [], ◌∷◌, length, map}
use Rattle.box_geo.specs.declared.atoms.Angle.{Angle}
use Rattle.box_geo.specs.declared.atoms.Atom.{Atom}
use Rattle.box_geo.specs.declared.atoms.Bond.{Bond}
use Rattle.box_geo.specs.declared.sim_box.Sides.{Sides}
use Rattle.box_geo.specs.declared.styles.AtomStyle.{AtomStyle}
use Rattle.data_file.specs.declared.contents.AngleLine.{AngleLine}
use Rattle.data_file.specs.declared.contents.BondLine.{BondLine}
use Rattle.data_file.specs.declared.contents.DataSet.{DataSet}
use Rattle.data_file.specs.declared.contents.PairLine.{PairLine}
use Rattle.data_file.specs.declared.fault.DataFault.{DataFault}
use Rattle.data_file.specs.declared.fault.DataFault.TheVariants as fault
use Rattle.data_file.specs.declared.fault.DataRefusal.{DataRefusal}
use Rattle.data_file.specs.declared.fault.DataRefusal.TheVariants as refusal
use Rattle.data_file.specs.declared.fault.Stop.{Stop}
use Rattle.data_file.specs.declared.fault.Stop.TheVariants as stop
use Rattle.data_file.specs.declared.reading.Reading.{Reading}
use Rattle.data_file.specs.declared.sections.Section.{Section}
use Rattle.data_file.specs.declared.sections.Section.TheVariants.{Masses, PairCoeffs, BondCoeffs, AngleCoeffs, Atoms, Velocities, Bonds, Angles}
use Rattle.data_file.specs.Fields.{made}
use Rattle.data_file.specs.Header.{empty, given_or_zero, header_line, is_complete, sides_of}
use Rattle.script_lines.specs.Physical.{physical_lines}
use Rattle.data_file.specs.Rows.{angle_line_row, angle_row, atom_row, bond_line_row, bond_row, mass_row, number_of, pair_row, unless, velocity_row}
use Rattle.data_file.specs.Sections.{begin, comes_after_atoms, has_begun, has_style, none_begun, rows_of, section_of}
use Rattle.data_file.specs.Tables.{add, masses_of, put, with_velocity}
use Rattle.data_file.specs.Words.{without_comment, words_of}

-- nothing is read yet of a file for atoms of a style in a box of so many dimensions, periodic along these axes
abbrev pub start : AtomStyle → List Bool → ℕ → Reading
start style periodic dim = record {
  style = style;
  periodic = periodic;
  dim = dim;
  header = empty;
  begun = none_begun;
  section = None;
  met = [];
  masses = [];
  pair = [];
  bond = [];
  angle = [];
  atoms = [];
  velocities = [];
  bonds = [];
  bonds_of = [];
  angles = [];
  angles_of = [];
}

-- one bond or angle more of an atom than it had
abbrev pub one_more : List (ℕ × ℕ) → ℕ → List (ℕ × ℕ) → List (ℕ × ℕ)
one_more had id numbers = put numbers id (number_of id had + 1)

abbrev pub with_mass : Reading → ℕ × ℤ → Reading
with_mass s r = record s { masses = put s.masses r.0 r.1; met = add s.met r.0 }

abbrev pub with_pair : Reading → PairLine → Reading
with_pair s p = record s { pair = s.pair ++ p ∷ []; met = add s.met p.kind }

abbrev pub with_bond_line : Reading → BondLine → Reading
with_bond_line s b = record s { bond = s.bond ++ b ∷ []; met = add s.met b.kind }

abbrev pub with_angle_line : Reading → AngleLine → Reading
with_angle_line s a = record s { angle = s.angle ++ a ∷ []; met = add s.met a.kind }

abbrev pub with_atom : Reading → Atom → Reading
with_atom s a = record s { atoms = put s.atoms a.id a; met = add s.met a.id }

abbrev pub with_vector : Reading → ℕ × List ℤ → Reading
with_vector s r = record s { velocities = put s.velocities r.0 r.1; met = add s.met r.0 }

abbrev pub with_bond : Reading → ℕ × Bond → Reading
with_bond s r = record s { bonds = s.bonds ++ r.1 ∷ []; bonds_of = one_more s.bonds_of r.1.b (one_more s.bonds_of r.1.a s.bonds_of); met = add s.met r.0 }

abbrev pub with_angle : Reading → ℕ × Angle → Reading
with_angle s r = record s { angles = s.angles ++ r.1 ∷ []; angles_of = one_more s.angles_of r.1.c (one_more s.angles_of r.1.b (one_more s.angles_of r.1.a s.angles_of)); met = add s.met r.0 }

-- how many types of atoms, bonds and angles there are
abbrev pub atom_types : Reading → ℕ
atom_types s = given_or_zero s.header.atom_types

abbrev pub bond_types : Reading → ℕ
bond_types s = given_or_zero s.header.bond_types

abbrev pub angle_types : Reading → ℕ
angle_types s = given_or_zero s.header.angle_types

-- a row of an atom in a box
abbrev pub atom_row_in : Reading → Option Sides → List (List ℕ) → Result Atom DataFault
atom_row_in s None words = Err fault.Missing
atom_row_in s (Some sides) words = atom_row s.style (atom_types s) sides s.met words

-- a row of a section
abbrev pub row : Section → Reading → List (List ℕ) → Result Reading DataFault
row Masses s words = made (with_mass s) (mass_row (atom_types s) s.met words)
row PairCoeffs s words = made (with_pair s) (pair_row (atom_types s) s.met words)
row BondCoeffs s words = made (with_bond_line s) (bond_line_row (bond_types s) s.met words)
row AngleCoeffs s words = made (with_angle_line s) (angle_line_row (angle_types s) s.met words)
row Atoms s words = made (with_atom s) (atom_row_in s (sides_of s.dim s.header) words)
row Velocities s words = made (with_vector s) (velocity_row s.met s.atoms words)
row Bonds s words = made (with_bond s) (bond_row (bond_types s) s.met s.atoms s.bonds_of words)
row Angles s words = made (with_angle s) (angle_row (angle_types s) s.met s.atoms s.angles_of words)

-- the section that is open has all its rows
abbrev pub is_full : Option Section → Reading → Bool
is_full None s = true
is_full (Some section) s = length s.met == rows_of section s.header

-- what a title needs: the lines of the header, the rows of the section before it, and the atoms where it comes after them
abbrev pub is_ready : Section → Reading → Bool
is_ready section s = is_complete s.header && is_full s.section s && (not (comes_after_atoms section) || s.begun.atoms)

-- the title of a section
unfoldable pub titled : Section → Reading → Result Reading DataFault
titled section s =
    unless (has_begun section s.begun) fault.Twice (unless (not (has_style section s.style)) fault.Style (unless (not (is_ready section s)) fault.Missing
    (Ok record s { begun = begin section s.begun; section = Some section; met = [] })))

-- a line that is no title, in the header or in a section
abbrev pub within : Option Section → Reading → List (List ℕ) → Result Reading DataFault
within None s words = made (λ h. record s { header = h }) (header_line s.periodic s.header words)
within (Some section) s words = unless (not (nat_lt (length s.met) (rows_of section s.header))) fault.NotALine (row section s words)

abbrev pub with_title : Option Section → Reading → List (List ℕ) → Result Reading DataFault
with_title (Some section) s words = titled section s
with_title None s words = within s.section s words

-- what is read with a line more
unfoldable pub judge : Reading → List (List ℕ) → Result Reading DataFault
judge s words = cond (length words == 0) (Ok s) (with_title (section_of words) s words)

-- what a data file says
pub record Contents : Type 0 where
  pub sides : Sides
  pub kinds : List ℕ  -- the numbers of atom, bond and angle types
  pub mass : List ℤ  -- of each atom type, 0 where there is none
  pub atoms : List Atom  -- in rising order of id
  pub bonds : List Bond
  pub angles : List Angle
  pub pair : List PairLine
  pub has_bond : Bool  -- whether the file has the section Bond Coeffs, with or without lines
  pub bond : List BondLine
  pub has_angle : Bool  -- and Angle Coeffs
  pub angle : List AngleLine

abbrev pub contents_with : Reading → Option Sides → Result Contents DataFault
contents_with s None = Err fault.Missing
contents_with s (Some sides) = Ok record {
  sides = sides;
  kinds = atom_types s ∷ bond_types s ∷ angle_types s ∷ [];
  mass = masses_of (atom_types s) s.masses;
  atoms = map (with_velocity s.velocities) s.atoms;
  bonds = s.bonds;
  angles = s.angles;
  pair = s.pair;
  has_bond = has_begun BondCoeffs s.begun;
  bond = s.bond;
  has_angle = has_begun AngleCoeffs s.begun;
  angle = s.angle;
}

-- a section that is needed where its count is above 0
abbrev pub is_there : Section → Reading → Bool
is_there section s = has_begun section s.begun || (rows_of section s.header == 0)

-- whether nothing is missing at the end
abbrev pub is_whole : Reading → Bool
is_whole s = is_complete s.header && is_full s.section s && is_there Atoms s && is_there Bonds s && is_there Angles s

-- the contents at the end of the file
unfoldable pub finished : Reading → Result Contents DataFault
finished s = unless (not (is_whole s)) fault.Missing (contents_with s (sides_of s.dim s.header))

-- a fault with the number of its line
abbrev pub at_line : {A : Type 0} → ℕ → Result A DataFault → Result A (ℕ × DataFault)
at_line n (Ok a) = Ok a
at_line n (Err why) = Err (n, why)

abbrev pub words_in : List ℕ → List (List ℕ)
words_in line = words_of (without_comment line)

-- a line of a number, of which the first is skipped
abbrev pub judge_line : ℕ → Reading → List ℕ → Result Reading DataFault
judge_line n s line = cond (n == 1) (Ok s) (judge s (words_in line))

abbrev pub goes_on : ℕ → (Reading → Result Contents (ℕ × DataFault)) → Result Reading DataFault → Result Contents (ℕ × DataFault)
goes_on n next (Ok s) = next s
goes_on n next (Err why) = Err (n, why)

-- what lines say from a number on, behind what is read
abbrev pub read_lines : List (List ℕ) → ℕ → Reading → Result Contents (ℕ × DataFault)
read_lines [] n s = at_line n (finished s)
read_lines (line ∷ lines) n s = goes_on n (read_lines lines (n + 1)) (judge_line n s line)

-- what the lines of a text say behind what is read
abbrev pub read_text : Reading → List (List ℕ) → Result Contents (ℕ × DataFault)
read_text s lines = read_lines lines 1 s

-- what a data file says for atoms of a style in a box of so many dimensions, periodic along these axes
unfoldable pub data_of : AtomStyle → List Bool → ℕ → List ℕ → Result Contents (ℕ × DataFault)
data_of style periodic dim bytes = read_text (start style periodic dim) (physical_lines bytes)

-- the contents of a data set
abbrev pub contents_of : DataSet → Contents
contents_of d = record {
  sides = d.cell.sides;
  kinds = d.kinds;
  mass = d.mass;
  atoms = d.atoms;
  bonds = d.bonds;
  angles = d.angles;
  pair = d.pair;
  has_bond = d.has_bond;
  bond = d.bond;
  has_angle = d.has_angle;
  angle = d.angle;
}

-- a call that changes what is read takes a line as it is judged, or wants memory
abbrev pub Takes : {U : Type 0} → Result Reading DataFault → Result U Stop → Reading → Type 0
Takes meant (Ok u) new = meant ≡ Ok new
Takes meant (Err (stop.Fault why)) new = meant ≡ Err why
Takes meant (Err stop.NoMemory) new = Unit {0}

-- the contents at the end are what is meant
abbrev pub Ends : Result Contents DataFault → Result DataSet Stop → Type 0
Ends meant (Ok d) = meant ≡ Ok (contents_of d)
Ends meant (Err (stop.Fault why)) = meant ≡ Err why
Ends meant (Err stop.NoMemory) = Unit {0}

-- the refusal of a line
abbrev pub refusal_of : ℕ → Stop → DataRefusal
refusal_of n (stop.Fault why) = refusal.Line n why
refusal_of n stop.NoMemory = refusal.NoMemory

-- a text reads as what is meant, or memory is wanted
abbrev pub ReadsText : Result Contents (ℕ × DataFault) → Result DataSet DataRefusal → Type 0
ReadsText meant (Ok d) = meant ≡ Ok (contents_of d)
ReadsText meant (Err (refusal.Line n why)) = meant ≡ Err (n, why)
ReadsText meant (Err refusal.NoMemory) = Unit {0}
