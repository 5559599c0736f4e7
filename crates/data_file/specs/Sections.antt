-- The sections of a data file, and their titles.
use Rattle.std.specs.Prelude.{◌==◌, ◌&&◌, Bool, true, false, cond, ℕ, Option, Some, None, List, length, codes}
use Rattle.std.specs.Str.{bytes_eq}
use Rattle.box_geo.specs.declared.styles.AtomStyle.{AtomStyle}
use Rattle.box_geo.specs.declared.styles.AtomStyle.TheVariants as style
use Rattle.data_file.specs.declared.header.Header.{Header}
use Rattle.data_file.specs.declared.sections.Begun.{Begun}
use Rattle.data_file.specs.declared.sections.Section.{Section}
use Rattle.data_file.specs.declared.sections.Section.TheVariants.{Masses, PairCoeffs, BondCoeffs, AngleCoeffs, Atoms, Velocities, Bonds, Angles}
use Rattle.data_file.specs.Header.{given_or_zero}
use Rattle.data_file.specs.Words.{word}

abbrev pub single_title : List (List ℕ) → Option Section
single_title words =
    cond (bytes_eq (word 0 words) (codes "Masses")) (Some Masses)
    (cond (bytes_eq (word 0 words) (codes "Atoms")) (Some Atoms)
    (cond (bytes_eq (word 0 words) (codes "Velocities")) (Some Velocities)
    (cond (bytes_eq (word 0 words) (codes "Bonds")) (Some Bonds)
    (cond (bytes_eq (word 0 words) (codes "Angles")) (Some Angles) None))))

abbrev pub coeffs_title : List (List ℕ) → Option Section
coeffs_title words =
    cond (bytes_eq (word 0 words) (codes "Pair")) (Some PairCoeffs)
    (cond (bytes_eq (word 0 words) (codes "Bond")) (Some BondCoeffs)
    (cond (bytes_eq (word 0 words) (codes "Angle")) (Some AngleCoeffs) None))

-- the section whose title the words are
unfoldable pub section_of : List (List ℕ) → Option Section
section_of words =
    cond (length words == 1) (single_title words)
    (cond ((length words == 2) && bytes_eq (word 1 words) (codes "Coeffs")) (coeffs_title words) None)

-- atoms of every style but atomic have bonds, those of two have angles
abbrev pub has_bonds : AtomStyle → Bool
has_bonds style.Atomic = false
has_bonds s = true

abbrev pub has_angles : AtomStyle → Bool
has_angles style.Angle = true
has_angles style.Molecular = true
has_angles s = false

abbrev pub has_style : Section → AtomStyle → Bool
has_style Bonds s = has_bonds s
has_style Angles s = has_angles s
has_style section s = true

abbrev pub comes_after_atoms : Section → Bool
comes_after_atoms Velocities = true
comes_after_atoms Bonds = true
comes_after_atoms Angles = true
comes_after_atoms section = false

abbrev pub none_begun : Begun
none_begun = record { masses = false; pair_coeffs = false; bond_coeffs = false; angle_coeffs = false; atoms = false; velocities = false; bonds = false; angles = false }

abbrev pub has_begun : Section → Begun → Bool
has_begun Masses b = b.masses
has_begun PairCoeffs b = b.pair_coeffs
has_begun BondCoeffs b = b.bond_coeffs
has_begun AngleCoeffs b = b.angle_coeffs
has_begun Atoms b = b.atoms
has_begun Velocities b = b.velocities
has_begun Bonds b = b.bonds
has_begun Angles b = b.angles

abbrev pub begin : Section → Begun → Begun
begin Masses b = record b { masses = true }
begin PairCoeffs b = record b { pair_coeffs = true }
begin BondCoeffs b = record b { bond_coeffs = true }
begin AngleCoeffs b = record b { angle_coeffs = true }
begin Atoms b = record b { atoms = true }
begin Velocities b = record b { velocities = true }
begin Bonds b = record b { bonds = true }
begin Angles b = record b { angles = true }

-- how many rows a section has
abbrev pub rows_of : Section → Header → ℕ
rows_of Masses h = given_or_zero h.atom_types
rows_of PairCoeffs h = given_or_zero h.atom_types
rows_of BondCoeffs h = given_or_zero h.bond_types
rows_of AngleCoeffs h = given_or_zero h.angle_types
rows_of Atoms h = given_or_zero h.atoms
rows_of Velocities h = given_or_zero h.atoms
rows_of Bonds h = given_or_zero h.bonds
rows_of Angles h = given_or_zero h.angles
