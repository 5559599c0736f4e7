-- The halo of a brick as the code keeps it.
use Rattle.std.specs.Prelude.{◌≡◌, ◌==◌, ◌&&◌, ◌||◌, Bool, not, ℕ, ℤ, pos, ◌+ℤ◌, ◌-ℤ◌, int_lt, List, slice_index_or}
use Rattle.box_geo.specs.declared.sim_box.Sides.{Sides}
use Rattle.rank_grid.specs.Bricks.{low_side, high_side}
use Rattle.ghost_shell.specs.declared.halo.Halo.{Halo}
use Rattle.ghost_shell.specs.Images.{is_around, is_beside}

-- the halo of a rank
pub record IsHalo (counts : List ℕ) (s : Sides) (rank : ℕ) (length : ℤ) (h : Halo) : Type 0 where
  pub low : h.low ≡ low_side counts s rank
  pub high : h.high ≡ high_side counts s rank
  pub reach : h.reach ≡ length
  pub space : h.space ≡ (s.dim == 3)

-- it holds a position
abbrev pub holds : Halo → List ℤ → Bool
holds h p = is_around h.low h.high h.space h.reach p

-- along an axis, a half-open interval may have a number within reach of another
abbrev pub may_meet_along : ℤ → ℤ → ℤ → ℤ → ℤ → Bool
may_meet_along low high reach from to = int_lt (low -ℤ reach) to && int_lt from (high +ℤ reach)

-- the same along an axis by its number, 0 to 2, for a position moved by a length; z counts in space alone
abbrev pub is_near_on : Halo → ℕ → List ℤ → ℤ → Bool
is_near_on h axis p length =
    ((axis == 2) && not h.space)
    || is_beside (slice_index_or h.low axis (pos 0)) (slice_index_or h.high axis (pos 0)) h.reach (slice_index_or p axis (pos 0) +ℤ length)

-- and for a brick of these sides: where not, no position of it is near
abbrev pub may_meet_on : Halo → List ℤ → List ℤ → ℕ → ℤ → Bool
may_meet_on h low high axis length =
    ((axis == 2) && not h.space)
    || may_meet_along (slice_index_or h.low axis (pos 0)) (slice_index_or h.high axis (pos 0)) h.reach
    (slice_index_or low axis (pos 0) +ℤ length) (slice_index_or high axis (pos 0) +ℤ length)
