-- Wrapping: a position is brought into the box by whole edges, and the image counts change by their numbers.
use Rattle.std.specs.Prelude.{◌≡◌, ◌/◌, ◌^◌, ◌<◌, ◌&&◌, Bool, true, false, not, cond, int_le, int_lt, ℕ, ℤ, pos, negsuc, ◌+ℤ◌, ◌-ℤ◌, ◌*ℤ◌, unsigned_abs, Result, Ok, Err, List, [], ◌∷◌, length}
use Rattle.box_geo.specs.declared.sim_box.Axis.{Axis}
use Rattle.box_geo.specs.declared.sim_box.Axis.TheVariants.{X, Y, Z}
use Rattle.box_geo.specs.declared.sim_box.Extent.{Extent}
use Rattle.box_geo.specs.declared.sim_box.Sides.{Sides}
use Rattle.box_geo.specs.Sides.{edge, x_of, y_of, z_of, z_wraps, Holds}

-- the whole number at or next below a/b, for b above 0
abbrev pub floor_div : ℤ → ℕ → ℤ
floor_div (pos n) b = pos (n / b)
floor_div (negsuc n) b = negsuc (n / b)

-- how many whole edges a number is beyond the axis
abbrev pub edges_beyond : Extent → ℤ → ℤ
edges_beyond e x = floor_div (x -ℤ e.lo) (unsigned_abs (edge e))

abbrev pub holds : Extent → ℤ → Bool
holds e x = int_le e.lo x && int_lt x e.hi

-- along an axis that wraps the number of edges that are taken off, elsewhere 0
abbrev pub taken_off : Bool → Extent → ℤ → ℤ
taken_off true e x = edges_beyond e x
taken_off false e x = pos 0

abbrev pub wrapped : Bool → Extent → ℤ → ℤ
wrapped wraps e x = x -ℤ taken_off wraps e x *ℤ edge e

-- an axis that does not wrap loses a number outside; z does not wrap in two dimensions
abbrev pub is_lost : Bool → Extent → ℤ → Bool
is_lost wraps e x = not wraps && not (holds e x)

-- a position inside the box with the whole edges that were taken off
pub record Wrapped : Type 0 where
  pub x : List ℤ
  pub edges : List ℤ

-- the position brought into the box, or the first axis that loses it
unfoldable pub wrap : Sides → List ℤ → Result Wrapped Axis
wrap s p =
    cond (is_lost s.x.periodic s.x (x_of p)) (Err X)
    (cond (is_lost s.y.periodic s.y (y_of p)) (Err Y)
    (cond (is_lost (z_wraps s) s.z (z_of p)) (Err Z)
    (Ok record {
      x = wrapped s.x.periodic s.x (x_of p) ∷ wrapped s.y.periodic s.y (y_of p) ∷ wrapped (z_wraps s) s.z (z_of p) ∷ [];
      edges = taken_off s.x.periodic s.x (x_of p) ∷ taken_off s.y.periodic s.y (y_of p) ∷ taken_off (z_wraps s) s.z (z_of p) ∷ [];
    })))

-- what wrapping means along an axis: the box holds the new number, and whole edges lie between it and the old one, none where the axis does not wrap
pub record IsWrappedAlong (wraps : Bool) (e : Extent) (old new edges : ℤ) : Type 0 where
  pub inside : Holds e new
  pub whole : old ≡ new +ℤ edges *ℤ edge e
  pub fixed : wraps ≡ false → edges ≡ pos 0

-- and along all three
pub record IsWrapped (s : Sides) (p : List ℤ) (w : Wrapped) : Type 0 where
  pub x : IsWrappedAlong s.x.periodic s.x (x_of p) (x_of w.x) (x_of w.edges)
  pub y : IsWrappedAlong s.y.periodic s.y (y_of p) (y_of w.x) (y_of w.edges)
  pub z : IsWrappedAlong (z_wraps s) s.z (z_of p) (z_of w.x) (z_of w.edges)
  pub places : length w.x ≡ 3
  pub counts : length w.edges ≡ 3

-- an axis loses a number: it does not wrap, and the box does not hold the number
abbrev pub Loses : Bool → Extent → ℤ → Type 0
Loses wraps e x = (wraps ≡ false) × (¬ Holds e x)

-- the first axis that loses the position
abbrev pub LosesFirst : Sides → List ℤ → Axis → Type 0
LosesFirst s p X = Loses s.x.periodic s.x (x_of p)
LosesFirst s p Y = (¬ Loses s.x.periodic s.x (x_of p)) × Loses s.y.periodic s.y (y_of p)
LosesFirst s p Z = (¬ Loses s.x.periodic s.x (x_of p)) × (¬ Loses s.y.periodic s.y (y_of p)) × Loses (z_wraps s) s.z (z_of p)

-- numbers of edges with magnitudes below 2^24
abbrev pub AreFew : List ℤ → Type 0
AreFew edges = (unsigned_abs (x_of edges) < 2 ^ 24) × (unsigned_abs (y_of edges) < 2 ^ 24) × (unsigned_abs (z_of edges) < 2 ^ 24)
