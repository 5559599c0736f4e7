-- Cells of space: as long as the reach along each axis. Their numbers begin anew after so many, and the cells of three axes have one number, x fastest.
use Rattle.std.specs.Prelude.{◌+◌, ◌*◌, ◌/◌, ◌%◌, ◌==◌, Bool, ℕ, ℤ, ◌+ℤ◌, unsigned_abs, List}
use Rattle.box_geo.specs.Sides.{x_of, y_of, z_of}
use Rattle.box_geo.specs.declared.atoms.Site.{Site}
use Rattle.cell_bins.specs.declared.limits.TheConstants.{MAX_COORDINATE}
use Rattle.cell_bins.specs.declared.cells.Cells.{Cells}

-- the cell before that of a coordinate, counted from the lowest coordinate: the first of three that lie round it
abbrev pub cell_before : ℕ → ℤ → ℕ
cell_before reach x = unsigned_abs (x +ℤ MAX_COORDINATE) / reach

-- how many numbers there are
abbrev pub count_of : Cells → ℕ
count_of c = c.x * c.y * c.z

-- the number of the cell with these places along x, y and z
unfoldable pub number_of : Cells → ℕ → ℕ → ℕ → ℕ
number_of c x y z = (z % c.z * c.y + y % c.y) * c.x + x % c.x

-- the number of the cell of a position
abbrev pub number_at : Cells → List ℤ → ℕ
number_at c x = number_of c (cell_before c.reach (x_of x) + 1) (cell_before c.reach (y_of x) + 1) (cell_before c.reach (z_of x) + 1)

-- the site is in a cell of this number
abbrev pub is_in : Cells → ℕ → Site → Bool
is_in c number s = number_at c s.x == number

-- the numbers of the 27 cells round a place, which has these cells before it along x, y and z: k goes from 0 to 26, along x fastest
abbrev pub number_round : Cells → ℕ → ℕ → ℕ → ℕ → ℕ
number_round c x y z k = number_of c (x + k % 3) (y + k / 3 % 3) (z + k / 9)
