-- The bricks of a box, and the owner of a position. A grid is the number of its bricks along each axis.
use Rattle.std.specs.Prelude.{◌+◌, ◌-◌, ◌*◌, ◌/◌, ◌%◌, ◌≤◌, ℕ, ℤ, pos, ◌+ℤ◌, ◌-ℤ◌, ◌<ℤ◌, ◌≤ℤ◌, unsigned_abs, List, [], ◌∷◌, slice_index}
use Rattle.box_geo.specs.declared.limits.TheConstants.{MAX_RANKS}
use Rattle.box_geo.specs.declared.sim_box.Extent.{Extent}
use Rattle.box_geo.specs.declared.sim_box.Sides.{Sides}
use Rattle.box_geo.specs.Sides.{edge, x_of, y_of, z_of}

-- how many bricks stand along an axis
abbrev pub x_count : List ℕ → ℕ
x_count counts = slice_index counts 0

abbrev pub y_count : List ℕ → ℕ
y_count counts = slice_index counts 1

abbrev pub z_count : List ℕ → ℕ
z_count counts = slice_index counts 2

-- how many bricks there are
abbrev pub ranks : List ℕ → ℕ
ranks counts = x_count counts * y_count counts * z_count counts

-- at least one brick along each axis, and no more in all than there may be
abbrev pub AreCounts : List ℕ → Type 0
AreCounts counts = (1 ≤ x_count counts) × (1 ≤ y_count counts) × (1 ≤ z_count counts) × (ranks counts ≤ MAX_RANKS)

-- along an axis, the place of the brick that holds x: the floor of (x - lo) · P / L
abbrev pub place_along : ℕ → Extent → ℤ → ℕ
place_along parts e x = unsigned_abs (x -ℤ e.lo) * parts / unsigned_abs (edge e)

-- along an axis, the low side of the brick at a place, which is the high side of the one before: lo + k · L / P, rounded up
abbrev pub side_along : ℕ → Extent → ℕ → ℤ
side_along parts e place = e.lo +ℤ pos ((place * unsigned_abs (edge e) + (parts - 1)) / parts)

-- the number of a brick by its places along the axes, x fastest
abbrev pub rank_of : List ℕ → ℕ → ℕ → ℕ → ℕ
rank_of counts i j k = (k * y_count counts + j) * x_count counts + i

-- and its places by its number
abbrev pub x_place : List ℕ → ℕ → ℕ
x_place counts rank = rank % x_count counts

abbrev pub y_place : List ℕ → ℕ → ℕ
y_place counts rank = rank / x_count counts % y_count counts

abbrev pub z_place : List ℕ → ℕ → ℕ
z_place counts rank = rank / x_count counts / y_count counts

abbrev pub places_of_rank : List ℕ → ℕ → List ℕ
places_of_rank counts rank = x_place counts rank ∷ y_place counts rank ∷ z_place counts rank ∷ []

-- the rank of the brick that owns a position
unfoldable pub owner : List ℕ → Sides → List ℤ → ℕ
owner counts s p =
    rank_of counts
    (place_along (x_count counts) s.x (x_of p))
    (place_along (y_count counts) s.y (y_of p))
    (place_along (z_count counts) s.z (z_of p))

-- the low sides of the brick at these places, which are the high sides of the one before along each axis
abbrev pub sides_at : List ℕ → Sides → ℕ → ℕ → ℕ → List ℤ
sides_at counts s i j k =
    side_along (x_count counts) s.x i ∷ side_along (y_count counts) s.y j ∷ side_along (z_count counts) s.z k ∷ []

-- the low and the high sides of a brick
unfoldable pub low_side : List ℕ → Sides → ℕ → List ℤ
low_side counts s rank = sides_at counts s (x_place counts rank) (y_place counts rank) (z_place counts rank)

unfoldable pub high_side : List ℕ → Sides → ℕ → List ℤ
high_side counts s rank = sides_at counts s (x_place counts rank + 1) (y_place counts rank + 1) (z_place counts rank + 1)

-- a number is at or above the low side and below the high one
abbrev pub IsBetween : ℤ → ℤ → ℤ → Type 0
IsBetween low high x = (low ≤ℤ x) × (x <ℤ high)

-- a brick holds a position
pub record IsInBrick (counts : List ℕ) (s : Sides) (rank : ℕ) (p : List ℤ) : Type 0 where
  pub x : IsBetween (x_of (low_side counts s rank)) (x_of (high_side counts s rank)) (x_of p)
  pub y : IsBetween (y_of (low_side counts s rank)) (y_of (high_side counts s rank)) (y_of p)
  pub z : IsBetween (z_of (low_side counts s rank)) (z_of (high_side counts s rank)) (z_of p)
