-- The sides of a simulation box: what it holds, and the nearest image of a displacement.
use Rattle.std.specs.Prelude.{◌≡◌, ◌+◌, ◌*◌, ◌^◌, ◌≤◌, ◌==◌, ◌&&◌, Bool, true, false, cond, ℕ, ℤ, pos, neg_ℤ, ◌+ℤ◌, ◌-ℤ◌, ◌*ℤ◌, ◌<ℤ◌, ◌≤ℤ◌, int_lt, unsigned_abs, List, [], ◌∷◌, slice_index_or, nat_lt, ◌||◌, Option, Some, None}
use Rattle.std.specs.Option.{option_or}
use Rattle.fx_num.specs.Rounding.{nearest_of}
use Rattle.box_geo.specs.declared.sim_box.Axis.{Axis}
use Rattle.box_geo.specs.declared.sim_box.Axis.TheVariants.{X, Y, Z}
use Rattle.box_geo.specs.declared.sim_box.BoxRefusal.{BoxRefusal}
use Rattle.box_geo.specs.declared.sim_box.BoxRefusal.TheVariants.{TooFar, Edge}
use Rattle.box_geo.specs.declared.sim_box.Extent.{Extent}
use Rattle.box_geo.specs.declared.sim_box.Sides.{Sides}

-- the length of the box along an axis
abbrev pub edge : Extent → ℤ
edge e = e.hi -ℤ e.lo

-- bounds within 1024, an edge from 2^-6 to 1024
abbrev pub IsSoundExtent : Extent → Type 0
IsSoundExtent e = (unsigned_abs e.lo ≤ 2 ^ 34) × (unsigned_abs e.hi ≤ 2 ^ 34) × (pos (2 ^ 18) ≤ℤ (e.hi -ℤ e.lo)) × ((e.hi -ℤ e.lo) ≤ℤ pos (2 ^ 34))

abbrev pub IsSound : Sides → Type 0
IsSound s = IsSoundExtent s.x × IsSoundExtent s.y × IsSoundExtent s.z × (2 ≤ s.dim) × (s.dim ≤ 3)

-- an axis of these bounds
abbrev pub extent_of : ℤ → ℤ → Bool → Extent
extent_of lo hi periodic = record { lo = lo; hi = hi; periodic = periodic }

-- why bounds make no axis: one is beyond 1024, or else the edge is below 2^-6 or above 1024
abbrev pub extent_refusal : Axis → ℤ → ℤ → Option BoxRefusal
extent_refusal axis lo hi =
    cond (nat_lt (2 ^ 34) (unsigned_abs lo) || nat_lt (2 ^ 34) (unsigned_abs hi)) (Some (TooFar axis))
    (cond (int_lt (hi -ℤ lo) (pos (2 ^ 18)) || int_lt (pos (2 ^ 34)) (hi -ℤ lo)) (Some (Edge axis)) None)

-- a component of a vector
abbrev pub x_of : List ℤ → ℤ
x_of v = slice_index_or v 0 (pos 0)

abbrev pub y_of : List ℤ → ℤ
y_of v = slice_index_or v 1 (pos 0)

abbrev pub z_of : List ℤ → ℤ
z_of v = slice_index_or v 2 (pos 0)

-- each component of a vector is of magnitude at most a bound
abbrev pub IsWithin : ℕ → List ℤ → Type 0
IsWithin bound v = (unsigned_abs (x_of v) ≤ bound) × (unsigned_abs (y_of v) ≤ bound) × (unsigned_abs (z_of v) ≤ bound)

-- the sides of these bounds
abbrev pub sides_of : List ℤ → List ℤ → List Bool → ℕ → Sides
sides_of lo hi periodic dim = record {
  x = extent_of (x_of lo) (x_of hi) (slice_index_or periodic 0 false);
  y = extent_of (y_of lo) (y_of hi) (slice_index_or periodic 1 false);
  z = extent_of (z_of lo) (z_of hi) (slice_index_or periodic 2 false);
  dim = dim;
}

-- why bounds make no box: the refusal of the first axis that has one, from x
unfoldable pub box_refusal : List ℤ → List ℤ → Option BoxRefusal
box_refusal lo hi =
    option_or
    (option_or (extent_refusal X (x_of lo) (x_of hi)) (extent_refusal Y (y_of lo) (y_of hi)))
    (extent_refusal Z (z_of lo) (z_of hi))

-- the half-open interval of an axis holds a number
abbrev pub Holds : Extent → ℤ → Type 0
Holds e x = (e.lo ≤ℤ x) × (x <ℤ e.hi)

-- a position is inside the box
abbrev pub IsInside : Sides → List ℤ → Type 0
IsInside s p = Holds s.x (x_of p) × Holds s.y (y_of p) × Holds s.z (z_of p)

-- of the differences d + k·edge, the one nearest to 0, for d between -edge and edge; d itself where the axis does not wrap, and at exactly half an edge
abbrev pub near_along : Bool → ℤ → ℤ → ℤ
near_along false length d = d
near_along true length d =
    cond (int_lt length (pos 2 *ℤ d)) (d -ℤ length)
    (cond (int_lt (pos 2 *ℤ d) (neg_ℤ length)) (d +ℤ length) d)

-- z is not wrapped in two dimensions
abbrev pub z_wraps : Sides → Bool
z_wraps s = s.z.periodic && (s.dim == 3)

-- the displacement from b to a, to the nearest image
unfoldable pub near_image : Sides → List ℤ → List ℤ → List ℤ
near_image s a b =
    near_along s.x.periodic (edge s.x) (x_of a -ℤ x_of b)
    ∷ near_along s.y.periodic (edge s.y) (y_of a -ℤ y_of b)
    ∷ near_along (z_wraps s) (edge s.z) (z_of a -ℤ z_of b)
    ∷ []

-- the square of a length
abbrev pub length2 : List ℤ → ℕ
length2 d =
    unsigned_abs (x_of d) * unsigned_abs (x_of d)
    + unsigned_abs (y_of d) * unsigned_abs (y_of d)
    + unsigned_abs (z_of d) * unsigned_abs (z_of d)

-- the volume, in two dimensions the area
unfoldable pub volume_of : Sides → ℕ
volume_of s =
    cond (s.dim == 3)
    (nearest_of (unsigned_abs (edge s.x) * unsigned_abs (edge s.y) * unsigned_abs (edge s.z)) (2 ^ 48))
    (nearest_of (unsigned_abs (edge s.x) * unsigned_abs (edge s.y)) (2 ^ 24))

-- the number of units in so many whole edges, 0 where the axis does not wrap
abbrev pub whole_edges : Bool → ℤ → ℤ → ℤ
whole_edges wraps length k = cond wraps (k *ℤ length) (pos 0)

-- the displacement from b to the image of a that is i, j and k edges away along x, y and z
unfoldable pub image_displacement : Sides → List ℤ → List ℤ → ℤ → ℤ → ℤ → List ℤ
image_displacement s a b i j k =
    (x_of a -ℤ x_of b +ℤ whole_edges s.x.periodic (edge s.x) i)
    ∷ (y_of a -ℤ y_of b +ℤ whole_edges s.y.periodic (edge s.y) j)
    ∷ (z_of a -ℤ z_of b +ℤ whole_edges (z_wraps s) (edge s.z) k)
    ∷ []

-- every edge is above 0
abbrev pub HasEdges : Sides → Type 0
HasEdges s = (pos 0 <ℤ edge s.x) × (pos 0 <ℤ edge s.y) × (pos 0 <ℤ edge s.z)

-- each component of one vector is the negative of the other's
abbrev pub IsOpposite : List ℤ → List ℤ → Type 0
IsOpposite d e = (x_of e ≡ neg_ℤ (x_of d)) × (y_of e ≡ neg_ℤ (y_of d)) × (z_of e ≡ neg_ℤ (z_of d))
