-- How far pair terms reach.
use Rattle.std.specs.Prelude.{◌≡◌, ◌+◌, ◌*◌, ◌≤◌, ℕ, ℤ, ◌-ℤ◌, unsigned_abs, List}
use Rattle.box_geo.specs.declared.sim_box.Sides.{Sides}
use Rattle.box_geo.specs.Sides.{edge, x_of, y_of, z_of, z_wraps}
use Rattle.serial_step.specs.Forces.{Field}
use Rattle.serial_step.specs.Pairs.{IsReach}
use Rattle.step_engine.specs.declared.reach.Reach.{Reach}
use Rattle.step_engine.specs.Turns.{apart_along, turn_along}

-- the square of how far apart two positions are
abbrev pub apart2 : Reach → List ℤ → List ℤ → ℕ
apart2 r a b =
    apart_along r.x (x_of a) (x_of b) * apart_along r.x (x_of a) (x_of b)
    + apart_along r.y (y_of a) (y_of b) * apart_along r.y (y_of a) (y_of b)
    + apart_along r.z (z_of a) (z_of b) * apart_along r.z (z_of a) (z_of b)

-- no two places are farther apart than a turn
abbrev pub AreWithinTurns : Reach → List ℤ → List ℤ → Type 0
AreWithinTurns r a b =
    (unsigned_abs (x_of a -ℤ x_of b) ≤ r.x) × (unsigned_abs (y_of a -ℤ y_of b) ≤ r.y) × (unsigned_abs (z_of a -ℤ z_of b) ≤ r.z)

-- the turns of a box, and a length that no cutoff is beyond
pub record IsReachOf (field : Field) (s : Sides) (r : Reach) : Type 0 where
  pub x : r.x ≡ turn_along s.x.periodic (edge s.x)
  pub y : r.y ≡ turn_along s.y.periodic (edge s.y)
  pub z : r.z ≡ turn_along (z_wraps s) (edge s.z)
  pub cutoff : IsReach field r.cutoff
