-- Lattice points: those inside a box, cell by cell.
use Rattle.std.specs.Prelude.{◌≡◌, ◌==◌, ◌&&◌, ◌+◌, ◌<◌, length, Bool, cond, ℕ, zero, suc, ℤ, pos, ◌+ℤ◌, ◌-ℤ◌, ◌*ℤ◌, unsigned_abs, List, [], ◌∷◌, map, flat_map}
use Rattle.std.specs.List.{Contains, filter}
use Rattle.fx_num.specs.Rounding.{div_rounded}
use Rattle.box_geo.specs.declared.limits.TheConstants.{MAX_ATOMS}
use Rattle.box_geo.specs.declared.sim_box.Extent.{Extent}
use Rattle.box_geo.specs.declared.sim_box.Sides.{Sides}
use Rattle.box_geo.specs.declared.styles.LatticeStyle.{LatticeStyle}
use Rattle.box_geo.specs.Sides.{x_of, y_of, z_of}
use Rattle.box_geo.specs.Wrap.{floor_div, holds}
use Rattle.lattice_fill.specs.declared.basis.Quarters.{Quarters}
use Rattle.lattice_fill.specs.declared.range.Cell.{Cell}
use Rattle.lattice_fill.specs.declared.spacing.Spacing.{Spacing}
use Rattle.lattice_fill.specs.Lattice.{basis_of, dim_of}

-- so many quarters of a spacing beyond the beginning of a cell
unfoldable pub coordinate : ℕ → ℤ → ℕ → ℤ
coordinate spacing cell quarters = div_rounded ((pos 4 *ℤ cell +ℤ pos quarters) *ℤ pos spacing) (pos 4)

-- the point of a cell at a place of the basis
abbrev pub point_of : Spacing → Cell → Quarters → List ℤ
point_of s cell q =
    coordinate s.x cell.x q.x
    ∷ coordinate s.y cell.y q.y
    ∷ coordinate s.z cell.z q.z
    ∷ []

abbrev pub points_of_cell : LatticeStyle → Spacing → Cell → List (List ℤ)
points_of_cell style s cell = map (point_of s cell) (basis_of style)

abbrev pub is_inside : Sides → List ℤ → Bool
is_inside b p = holds b.x (x_of p) && holds b.y (y_of p) && holds b.z (z_of p)

-- so many whole numbers from the first on
abbrev pub from : ℤ → ℕ → List ℤ
from first zero = []
from first (suc n) = first ∷ from (first +ℤ pos 1) n

-- the first cell that may have points in the box along an axis, and how many there are: up to that of the upper bound
abbrev pub first_cell : Extent → ℕ → ℤ
first_cell e spacing = floor_div e.lo spacing

abbrev pub cells_count : Extent → ℕ → ℕ
cells_count e spacing = unsigned_abs (floor_div e.hi spacing -ℤ floor_div e.lo spacing) + 1

abbrev pub cells_along : Extent → ℕ → List ℤ
cells_along e spacing = from (first_cell e spacing) (cells_count e spacing)

-- in two dimensions the points have the z of the origin
abbrev pub layers : LatticeStyle → Sides → ℕ → List ℤ
layers style b spacing = cond (dim_of style == 3) (cells_along b.z spacing) (pos 0 ∷ [])

abbrev pub inside_of_cell : LatticeStyle → Spacing → Sides → ℤ → ℤ → ℤ → List (List ℤ)
inside_of_cell style s b k j i = filter (is_inside b) (points_of_cell style s record { x = i; y = j; z = k })

abbrev pub inside_of_row : LatticeStyle → Spacing → Sides → ℤ → ℤ → List (List ℤ)
inside_of_row style s b k j = flat_map (inside_of_cell style s b k j) (cells_along b.x s.x)

abbrev pub inside_of_layer : LatticeStyle → Spacing → Sides → ℤ → List (List ℤ)
inside_of_layer style s b k = flat_map (inside_of_row style s b k) (cells_along b.y s.y)

-- the points of the lattice inside the box, in order of z cell, y cell, x cell, place of the basis
unfoldable pub points_of : LatticeStyle → Spacing → Sides → List (List ℤ)
points_of style s b = flat_map (inside_of_layer style s b) (layers style b s.z)

-- points and more are beyond the limit
abbrev pub AreTooMany : List (List ℤ) → List (List ℤ) → Type 0
AreTooMany points more = MAX_ATOMS < length points + length more

-- the points of the whole lattice: those of every cell, in two dimensions of the layer at the origin
pub record IsPoint (style : LatticeStyle) (s : Spacing) (p : List ℤ) (cell : Cell) (q : Quarters) : Type 0 where
  pub is : p ≡ point_of s cell q
  pub place : Contains (basis_of style) q
  pub flat : dim_of style ≡ 2 → cell.z ≡ pos 0
