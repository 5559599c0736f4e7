-- What the contents of a data file keep to.
use Rattle.std.specs.Prelude.{◌≡◌, ◌≢◌, ◌≤◌, ◌<◌, ◌⊎◌, ◌*ℤ◌, ◌<ℤ◌, ◌≤ℤ◌, false, ℕ, ℤ, pos, unsigned_abs, IfSome, List, [], length, map, slice_index}
use Rattle.std.specs.List.{All, Contains}
use Rattle.box_geo.specs.declared.atoms.Angle.{Angle}
use Rattle.box_geo.specs.declared.atoms.Atom.{Atom}
use Rattle.box_geo.specs.declared.atoms.Bond.{Bond}
use Rattle.box_geo.specs.declared.limits.TheConstants.{MAX_ATOMS, MAX_BONDS, MAX_CUTOFF, MAX_EPSILON, MAX_ID, MAX_IMAGE, MAX_KINDS, MAX_MASS, MAX_REST_LENGTH, MAX_SIGMA, MAX_SPEED, MAX_STIFFNESS, MIN_MASS}
use Rattle.box_geo.specs.declared.sim_box.Sides.{Sides}
use Rattle.box_geo.specs.declared.styles.AtomStyle.{AtomStyle}
use Rattle.box_geo.specs.Ids.{Rises}
use Rattle.box_geo.specs.Sides.{IsInside, IsWithin, x_of, y_of, z_of}
use Rattle.data_file.specs.declared.contents.AngleLine.{AngleLine}
use Rattle.data_file.specs.declared.contents.BondLine.{BondLine}
use Rattle.data_file.specs.declared.contents.PairLine.{PairLine}
use Rattle.data_file.specs.Data.{Contents}
use Rattle.data_file.specs.Sections.{has_angles, has_bonds}
use Rattle.data_file.specs.Tables.{zeros}

-- a type of so many
abbrev pub IsKind : ℕ → ℕ → Type 0
IsKind kinds kind = (1 ≤ kind) × (kind ≤ kinds)

-- a mass within its limits, or 0 where it is not set
abbrev pub IsMass : ℤ → Type 0
IsMass m = (m ≡ pos 0) ⊎ ((MIN_MASS ≤ℤ m) × (m ≤ℤ MAX_MASS))

-- an atom inside the box, of a type of the box, with numbers within their limits and without a force
pub record IsAtom (s : Sides) (kinds : ℕ) (a : Atom) : Type 0 where
  pub inside : IsInside s a.x
  pub kind : IsKind kinds a.kind
  pub id_low : 1 ≤ a.id
  pub id_high : a.id ≤ MAX_ID
  pub v : IsWithin (unsigned_abs MAX_SPEED) a.v
  pub f : a.f ≡ zeros
  pub image : IsWithin (unsigned_abs MAX_IMAGE) a.image

-- a bond of a type of the box, of two atoms that are there
pub record IsBond (kinds : ℕ) (ids : List ℕ) (bond : Bond) : Type 0 where
  pub kind : IsKind kinds bond.kind
  pub a : Contains ids bond.a
  pub b : Contains ids bond.b
  pub differ : bond.a ≢ bond.b

-- an angle of a type of the box, of three atoms that are there
pub record IsAngle (kinds : ℕ) (ids : List ℕ) (t : Angle) : Type 0 where
  pub kind : IsKind kinds t.kind
  pub a : Contains ids t.a
  pub b : Contains ids t.b
  pub c : Contains ids t.c
  pub first : t.a ≢ t.b
  pub second : t.b ≢ t.c
  pub outer : t.a ≢ t.c

abbrev pub IsCutoff : ℤ → ℤ → Type 0
IsCutoff sigma cutoff = (pos 0 <ℤ cutoff) × (cutoff ≤ℤ MAX_CUTOFF) × (sigma ≤ℤ (pos 4 *ℤ cutoff))

pub record IsPairLine (kinds : ℕ) (p : PairLine) : Type 0 where
  pub kind : IsKind kinds p.kind
  pub epsilon_low : pos 0 ≤ℤ p.epsilon
  pub epsilon_high : p.epsilon ≤ℤ MAX_EPSILON
  pub sigma_low : pos 0 <ℤ p.sigma
  pub sigma_high : p.sigma ≤ℤ MAX_SIGMA
  pub cutoff : IfSome p.cutoff (IsCutoff p.sigma)

pub record IsBondLine (kinds : ℕ) (b : BondLine) : Type 0 where
  pub kind : IsKind kinds b.kind
  pub stiffness_low : pos 0 ≤ℤ b.stiffness
  pub stiffness_high : b.stiffness ≤ℤ MAX_STIFFNESS
  pub length_low : pos 0 ≤ℤ b.rest_length
  pub length_high : b.rest_length ≤ℤ MAX_REST_LENGTH

pub record IsAngleLine (kinds : ℕ) (a : AngleLine) : Type 0 where
  pub kind : IsKind kinds a.kind
  pub stiffness_low : pos 0 ≤ℤ a.stiffness
  pub stiffness_high : a.stiffness ≤ℤ MAX_STIFFNESS

abbrev pub ids_of : Contents → List ℕ
ids_of c = map (λ a. a.id) c.atoms

-- the numbers of types, and the masses
pub record AreKinds (c : Contents) : Type 0 where
  pub some : 1 ≤ slice_index c.kinds 0
  pub atoms : slice_index c.kinds 0 ≤ MAX_KINDS
  pub bonds : slice_index c.kinds 1 ≤ MAX_KINDS
  pub angles : slice_index c.kinds 2 ≤ MAX_KINDS
  pub masses : length c.mass ≡ slice_index c.kinds 0
  pub mass : All IsMass c.mass

-- the lines of coefficients
pub record AreCoefficients (c : Contents) : Type 0 where
  pub pair : All (IsPairLine (slice_index c.kinds 0)) c.pair
  pub bond : All (IsBondLine (slice_index c.kinds 1)) c.bond
  pub angle : All (IsAngleLine (slice_index c.kinds 2)) c.angle

-- the atoms, and what binds them, which the style has
pub record AreBound (style : AtomStyle) (c : Contents) : Type 0 where
  pub few_atoms : length c.atoms ≤ MAX_ATOMS
  pub atoms : All (IsAtom c.sides (slice_index c.kinds 0)) c.atoms
  pub rising : Rises (ids_of c)
  pub few_bonds : length c.bonds ≤ MAX_BONDS
  pub bonds : All (IsBond (slice_index c.kinds 1) (ids_of c)) c.bonds
  pub few_angles : length c.angles ≤ MAX_BONDS
  pub angles : All (IsAngle (slice_index c.kinds 2) (ids_of c)) c.angles
  pub without_bonds : has_bonds style ≡ false → c.bonds ≡ []
  pub without_angles : has_angles style ≡ false → c.angles ≡ []

pub record IsSoundSet (style : AtomStyle) (dimensions : ℕ) (c : Contents) : Type 0 where
  pub dim : c.sides.dim ≡ dimensions
  pub kinds : AreKinds c
  pub coefficients : AreCoefficients c
  pub bound : AreBound style c
