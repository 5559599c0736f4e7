-- The lengths by which images are moved along the axes, as the code keeps them.
use Rattle.std.specs.Prelude.{◌≡◌, ◌&&◌, Bool, nat_lt, ℤ, List, length}
use Rattle.std.specs.List.{filter}
use Rattle.box_geo.specs.declared.sim_box.Sides.{Sides}
use Rattle.box_geo.specs.Sides.{edge, z_wraps}
use Rattle.ghost_shell.specs.declared.halo.Halo.{Halo}
use Rattle.ghost_shell.specs.declared.lengths.Lengths.{Lengths}
use Rattle.ghost_shell.specs.Images.{shifts_along}
use Rattle.ghost_shell.specs.Halos.{may_meet_on}

-- all lengths of a box
pub record AreLengths (s : Sides) (l : Lengths) : Type 0 where
  pub x : l.x.items ≡ shifts_along s.x.periodic (edge s.x)
  pub y : l.y.items ≡ shifts_along s.y.periodic (edge s.y)
  pub z : l.z.items ≡ shifts_along (z_wraps s) (edge s.z)

-- of these lengths, those by which a brick of these sides may come near a halo
pub record AreNearLengths (h : Halo) (low high : List ℤ) (all l : Lengths) : Type 0 where
  pub x : l.x.items ≡ filter (may_meet_on h low high 0) all.x.items
  pub y : l.y.items ≡ filter (may_meet_on h low high 1) all.y.items
  pub z : l.z.items ≡ filter (may_meet_on h low high 2) all.z.items

-- there is one for each axis
abbrev pub are_some : Lengths → Bool
are_some l = nat_lt 0 (length l.x.items) && (nat_lt 0 (length l.y.items) && nat_lt 0 (length l.z.items))
