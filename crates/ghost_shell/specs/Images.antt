-- The images of the atoms, and those that are the ghosts of a rank.
use Rattle.std.specs.Prelude.{◌==◌, ◌&&◌, ◌||◌, Bool, true, false, not, ℕ, ℤ, pos, neg_ℤ, ◌+ℤ◌, ◌-ℤ◌, int_lt, unsigned_abs, List, [], ◌∷◌, map, flat_map}
use Rattle.std.specs.List.{filter}
use Rattle.box_geo.specs.declared.atoms.Atom.{Atom}
use Rattle.box_geo.specs.declared.sim_box.Sides.{Sides}
use Rattle.box_geo.specs.Sides.{edge, x_of, y_of, z_of, z_wraps}
use Rattle.rank_grid.specs.Bricks.{owner, low_side, high_side}
use Rattle.rank_grid.specs.Owned.{numbered}

-- along an axis the lengths by which images are moved: an edge down, not at all, an edge up, or not at all alone
abbrev pub shifts_along : Bool → ℤ → List ℤ
shifts_along true length = neg_ℤ length ∷ pos 0 ∷ length ∷ []
shifts_along false length = pos 0 ∷ []

-- the shifts of a box: one length for each axis; z is not shifted in two dimensions
unfoldable pub shifts : Sides → List (List ℤ)
shifts s =
    flat_map (λ i. flat_map (λ j. map (λ k. i ∷ j ∷ k ∷ [])
    (shifts_along (z_wraps s) (edge s.z)))
    (shifts_along s.y.periodic (edge s.y)))
    (shifts_along s.x.periodic (edge s.x))

-- a position moved by a shift
abbrev pub moved : List ℤ → List ℤ → List ℤ
moved p shift = (x_of p +ℤ x_of shift) ∷ (y_of p +ℤ y_of shift) ∷ (z_of p +ℤ z_of shift) ∷ []

-- a shift that moves nothing
abbrev pub stays : List ℤ → Bool
stays shift = (unsigned_abs (x_of shift) == 0) && ((unsigned_abs (y_of shift) == 0) && (unsigned_abs (z_of shift) == 0))

-- an image is an atom with its place, and a shift
abbrev pub Image : Type 0
Image = (ℕ × Atom) × List ℤ

-- where it is
abbrev pub position : Image → List ℤ
position p = moved p.0.1.x p.1

-- all images of the atoms: each atom moved by each shift
abbrev pub images : Sides → List Atom → List Image
images s atoms = flat_map (λ shift. map (λ e. (e, shift)) (numbered 0 atoms)) (shifts s)

-- strictly between the low side less the reach and the high side and the reach
abbrev pub is_beside : ℤ → ℤ → ℤ → ℤ → Bool
is_beside low high reach x = int_lt (low -ℤ reach) x && int_lt x (high +ℤ reach)

-- the same along all axes; z is tested in space alone
abbrev pub is_around : List ℤ → List ℤ → Bool → ℤ → List ℤ → Bool
is_around low high space reach p =
    is_beside (x_of low) (x_of high) reach (x_of p)
    && (is_beside (y_of low) (y_of high) reach (y_of p)
    && (not space || is_beside (z_of low) (z_of high) reach (z_of p)))

-- a position is within reach of the brick of a rank
abbrev pub is_in_halo : List ℕ → Sides → ℕ → ℤ → List ℤ → Bool
is_in_halo counts s rank reach p = is_around (low_side counts s rank) (high_side counts s rank) (s.dim == 3) reach p

-- an image is one of the rank's own atoms, where it stands
abbrev pub is_own : List ℕ → Sides → ℕ → Image → Bool
is_own counts s rank p = (owner counts s p.0.1.x == rank) && stays p.1

-- the ghosts of a rank: all images within reach of its brick but its own atoms
abbrev pub is_ghost : List ℕ → Sides → ℕ → ℤ → Image → Bool
is_ghost counts s rank reach p = is_in_halo counts s rank reach (position p) && not (is_own counts s rank p)

abbrev pub ghost_images : List ℕ → Sides → ℕ → ℤ → List Atom → List Image
ghost_images counts s rank reach atoms = filter (is_ghost counts s rank reach) (images s atoms)
