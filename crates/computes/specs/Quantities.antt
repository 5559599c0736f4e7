-- Thermodynamic quantities, each rounded once; for the pressure s and w are rounded before, to units of 2^-24 (after the manual, with roundings of our own).
--
-- s is the sum of mass times squared velocity, in units of 2^-72; w the sum of displacement times force, in units of 2^-48.
use Rattle.std.specs.Prelude.{◌-◌, ◌*◌, ◌^◌, ◌≤◌, ◌==◌, cond, ℕ, ℤ, pos, ◌+ℤ◌, ◌*ℤ◌, ◌≤ℤ◌, unsigned_abs, List, length, slice_index_or}
use Rattle.fx_num.specs.Rounding.{div_rounded, shr_rounded}
use Rattle.box_geo.specs.declared.sim_box.Sides.{Sides}
use Rattle.box_geo.specs.declared.atoms.Atom.{Atom}
use Rattle.box_geo.specs.declared.limits.TheConstants.{MAX_MASS, MAX_SPEED}
use Rattle.box_geo.specs.Sides.{length2, volume_of, x_of, y_of, z_of}
use Rattle.sums.specs.Totals.{total}

-- the mass of a type, by the list of masses
abbrev pub mass_at : List ℤ → ℕ → ℤ
mass_at mass kind = slice_index_or mass (kind - 1) (pos 1)

-- the type of the atom has a mass within the limit
abbrev pub HasMass : List ℤ → Atom → Type 0
HasMass mass a = (1 ≤ a.kind) × (a.kind ≤ length mass) × (pos 0 ≤ℤ mass_at mass a.kind) × (mass_at mass a.kind ≤ℤ MAX_MASS)

-- no component of the atom's velocity is beyond the limit
abbrev pub IsSlow : Atom → Type 0
IsSlow a = (unsigned_abs (x_of a.v) ≤ unsigned_abs MAX_SPEED) × (unsigned_abs (y_of a.v) ≤ unsigned_abs MAX_SPEED) × (unsigned_abs (z_of a.v) ≤ unsigned_abs MAX_SPEED)

-- the sum of mass times squared velocity over all atoms
abbrev pub kinetic_of : List ℤ → Atom → ℤ
kinetic_of mass a = mass_at mass a.kind *ℤ pos (length2 a.v)

unfoldable pub kinetic_sum : List ℤ → List Atom → ℤ
kinetic_sum mass atoms = total (kinetic_of mass) atoms

-- the degrees of freedom of n atoms
abbrev pub freedom : ℕ → ℕ → ℕ
freedom dim n = dim * n - dim

-- the temperature of n atoms, 0 where nothing is free
unfoldable pub temperature : ℤ → ℕ → ℕ → ℤ
temperature s n dim = cond (freedom dim n == 0) (pos 0) (div_rounded s (pos (freedom dim n * 2 ^ 48)))

-- the kinetic energy, whole
unfoldable pub kinetic_energy : ℤ → ℤ
kinetic_energy s = div_rounded s (pos (2 ^ 49))

-- the kinetic energy for each of n atoms, 0 without atoms
unfoldable pub kinetic_share : ℤ → ℕ → ℤ
kinetic_share s n = cond (n == 0) (pos 0) (div_rounded s (pos (2 ^ 49 * n)))

-- an energy for each of n atoms, 0 without atoms
unfoldable pub energy_share : ℤ → ℕ → ℤ
energy_share e n = cond (n == 0) (pos 0) (div_rounded e (pos n))

-- the pressure
unfoldable pub pressure : ℤ → ℤ → Sides → ℤ
pressure s w sides = div_rounded ((shr_rounded s 48 +ℤ shr_rounded w 24) *ℤ pos (2 ^ 24)) (pos (sides.dim * volume_of sides))
