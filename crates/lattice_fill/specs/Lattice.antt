-- Lattices: how many atoms a cell has, where in it, and how long it is along each axis. Densities and lengths are in
-- units of 2^-24 (manual page of lattice).
use Rattle.std.specs.Prelude.{◌*◌, ◌^◌, ◌≤◌, ℕ, ℤ, pos, List, [], ◌∷◌, ◌++◌, map, ◌+◌}
use Rattle.fx_num.specs.Rounding.{nearest_of}
use Rattle.fx_num.specs.Roots.{sqrt_of, cbrt_of}
use Rattle.box_geo.specs.declared.styles.LatticeStyle.{LatticeStyle}
use Rattle.box_geo.specs.declared.styles.LatticeStyle.TheVariants.{Sc, Bcc, Fcc, Diamond, Sq, Sq2, Hex}
use Rattle.lattice_fill.specs.declared.basis.Quarters.{Quarters}
use Rattle.lattice_fill.specs.declared.spacing.Spacing.{Spacing}

-- the dimension of a style
abbrev pub dim_of : LatticeStyle → ℕ
dim_of Sc = 3
dim_of Bcc = 3
dim_of Fcc = 3
dim_of Diamond = 3
dim_of Sq = 2
dim_of Sq2 = 2
dim_of Hex = 2

-- so many quarters of a cell along each axis
abbrev pub at : ℕ → ℕ → ℕ → Quarters
at x y z = record { x = x; y = y; z = z }

-- quarters within a cell
abbrev pub AreQuarters : Quarters → Type 0
AreQuarters q = (q.x ≤ 3) × (q.y ≤ 3) × (q.z ≤ 3)

abbrev pub corner_and_faces : List Quarters
corner_and_faces = at 0 0 0 ∷ at 0 2 2 ∷ at 2 0 2 ∷ at 2 2 0 ∷ []

-- where the atoms of a cell are
abbrev pub basis_of : LatticeStyle → List Quarters
basis_of Sc = at 0 0 0 ∷ []
basis_of Bcc = at 0 0 0 ∷ at 2 2 2 ∷ []
basis_of Fcc = corner_and_faces
basis_of Diamond = corner_and_faces ++ map (λ q. at (q.x + 1) (q.y + 1) (q.z + 1)) corner_and_faces
basis_of Sq = at 0 0 0 ∷ []
basis_of Sq2 = at 0 0 0 ∷ at 2 2 0 ∷ []
basis_of Hex = at 0 0 0 ∷ at 2 2 0 ∷ []

-- the same along all axes
abbrev pub even : ℕ → Spacing
even a = record { x = a; y = a; z = a }

-- a cube with so many atoms has the density: atoms / a³
abbrev pub cubic : ℕ → ℕ → Spacing
cubic atoms density = even (cbrt_of (nearest_of (atoms * 2 ^ 96) density))

-- a square with so many atoms has it: atoms / a²
abbrev pub square : ℕ → ℕ → Spacing
square atoms density = even (sqrt_of (nearest_of (atoms * 2 ^ 72) density))

-- an oblong of a along x and √3·a along y with two atoms has it: 2 / (√3·a²)
abbrev pub hexagonal_edge : ℕ → ℕ
hexagonal_edge density = sqrt_of (nearest_of (2 * 2 ^ 96) (sqrt_of (3 * 2 ^ 48) * density))

abbrev pub hexagonal : ℕ → Spacing
hexagonal density = record {
  x = hexagonal_edge density;
  y = sqrt_of (3 * (hexagonal_edge density * hexagonal_edge density));
  z = hexagonal_edge density;
}

-- the length of a cell along each axis
unfoldable pub spacing_of : LatticeStyle → ℕ → Spacing
spacing_of Sc density = cubic 1 density
spacing_of Bcc density = cubic 2 density
spacing_of Fcc density = cubic 4 density
spacing_of Diamond density = cubic 8 density
spacing_of Sq density = square 1 density
spacing_of Sq2 density = square 2 density
spacing_of Hex density = hexagonal density

-- a spacing as a vector
abbrev pub lengths : Spacing → List ℤ
lengths s = pos s.x ∷ pos s.y ∷ pos s.z ∷ []

-- how long the cells are at the densities that lattices have: from 2^-4 to 512
abbrev pub IsFairAlong : ℕ → Type 0
IsFairAlong a = (2 ^ 20 ≤ a) × (a ≤ 2 ^ 33)

abbrev pub IsFair : Spacing → Type 0
IsFair s = IsFairAlong s.x × IsFairAlong s.y × IsFairAlong s.z
