-- The atoms about which a callback is asked.
use Rattle.std.specs.Prelude.{unsigned_abs}
use Rattle.box_geo.specs.declared.limits.TheConstants.{MAX_BOUND}
use Rattle.box_geo.specs.Sides.{IsWithin}
use Rattle.external_force.specs.declared.view.ExternalView.{ExternalView}

-- the atom is where a box may be: no component of its position is beyond the greatest bound
pub record IsNear (view : ExternalView) : Type 0 where
  pub x : IsWithin (unsigned_abs MAX_BOUND) view.x
