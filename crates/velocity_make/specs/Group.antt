-- The atoms of a group, and sums over them. Masses and velocities are in units of 2^-24.
use Rattle.std.specs.Prelude.{◌≡◌, ◌≤◌, ◌==◌, ◌*◌, ◌^◌, cond, true, Bool, ℕ, ℤ, pos, ◌*ℤ◌, ◌≤ℤ◌, unsigned_abs, List, [], ◌∷◌, length, slice_index_or}
use Rattle.std.specs.List.{filter}
use Rattle.fx_num.specs.Rounding.{div_rounded, shr_rounded}
use Rattle.fx_num.specs.Roots.{sqrt_of}
use Rattle.box_geo.specs.declared.atoms.Atom.{Atom}
use Rattle.box_geo.specs.declared.limits.TheConstants.{MAX_MASS, MIN_MASS}
use Rattle.box_geo.specs.Ids.{is_among}
use Rattle.box_geo.specs.Sides.{IsWithin}
use Rattle.sums.specs.Totals.{total}
use Rattle.computes.specs.Quantities.{IsSlow, mass_at}

-- whether an atom is of the group of these ids
abbrev pub is_member : List ℕ → Atom → Bool
is_member ids a = is_among ids a.id

-- the atoms of the group, in order
abbrev pub members : List ℕ → List Atom → List Atom
members ids atoms = filter (is_member ids) atoms

-- the atom is not of the group, or its type has a mass within the limits
abbrev pub IsWeighed : List ℤ → List ℕ → Atom → Type 0
IsWeighed mass ids a = is_member ids a ≡ true → (1 ≤ a.kind) × (a.kind ≤ length mass) × (MIN_MASS ≤ℤ mass_at mass a.kind) × (mass_at mass a.kind ≤ℤ MAX_MASS)

-- the atom is within the limit of speeds, and if it is of the group, as slow as a draw
abbrev pub IsCalm : List ℕ → Atom → Type 0
IsCalm ids a = IsSlow a × (is_member ids a ≡ true → IsWithin (2 ^ 29) a.v)

-- the mass of all atoms, and their momentum along an axis
abbrev pub mass_of : List ℤ → Atom → ℤ
mass_of mass a = mass_at mass a.kind

abbrev pub momentum_of : List ℤ → ℕ → Atom → ℤ
momentum_of mass axis a = mass_of mass a *ℤ slice_index_or a.v axis (pos 0)

abbrev pub whole_mass : List ℤ → List Atom → ℤ
whole_mass mass atoms = total (mass_of mass) atoms

abbrev pub momentum : List ℤ → ℕ → List Atom → ℤ
momentum mass axis atoms = total (momentum_of mass axis) atoms

-- what an atom brings to a sum over the group
abbrev pub of_group : List ℕ → (Atom → ℤ) → Atom → ℤ
of_group ids f a = cond (is_member ids a) (f a) (pos 0)

-- a velocity by a momentum and a mass, 0 without mass
unfoldable pub velocity_of : ℤ → ℤ → ℤ
velocity_of p m = cond (unsigned_abs m == 0) (pos 0) (div_rounded p m)

-- the mean velocity of atoms, by mass; 0 without atoms
abbrev pub mean_along : List ℤ → ℕ → List Atom → ℤ
mean_along mass axis atoms = velocity_of (momentum mass axis atoms) (whole_mass mass atoms)

abbrev pub mean : List ℤ → List Atom → List ℤ
mean mass atoms = mean_along mass 0 atoms ∷ mean_along mass 1 atoms ∷ mean_along mass 2 atoms ∷ []

-- the factor that brings n atoms of this sum of mass times squared velocity to a temperature, in units
unfoldable pub factor_of : ℤ → ℤ → ℕ → ℕ
factor_of t s free = sqrt_of (unsigned_abs (div_rounded (t *ℤ pos (free * 2 ^ 48)) (shr_rounded s 48)))
