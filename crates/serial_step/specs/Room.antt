-- Room for a run: along each axis that wraps, an edge of at least twice the sum of the greatest cutoff and the skin, so that a pair has one image within reach.
use Rattle.std.specs.Prelude.{◌&&◌, Bool, cond, ℤ, pos, ◌*ℤ◌, int_lt, Option, Some, None}
use Rattle.box_geo.specs.declared.sim_box.Axis.{Axis}
use Rattle.box_geo.specs.declared.sim_box.Axis.TheVariants.{X, Y, Z}
use Rattle.box_geo.specs.declared.sim_box.Extent.{Extent}
use Rattle.box_geo.specs.declared.sim_box.Sides.{Sides}
use Rattle.box_geo.specs.Sides.{edge, z_wraps}

abbrev pub is_too_small : Bool → Extent → ℤ → Bool
is_too_small wraps e reach = wraps && int_lt (edge e) (pos 2 *ℤ reach)

-- the first axis whose edge is too small for a reach; z does not wrap in two dimensions
unfoldable pub edge_too_small : Sides → ℤ → Option Axis
edge_too_small s reach =
    cond (is_too_small s.x.periodic s.x reach) (Some X)
    (cond (is_too_small s.y.periodic s.y reach) (Some Y)
    (cond (is_too_small (z_wraps s) s.z reach) (Some Z) None))
