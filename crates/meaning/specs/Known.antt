-- The numbers that formulas know: those of the state by keyword, and in the value of an atom variable those of an atom.
use Rattle.std.specs.Prelude.{ℕ, ℤ, pos, ◌*ℤ◌, Option, Some, None, List, [], ◌∷◌, ◌++◌, length, codes}
use Rattle.box_geo.specs.declared.atoms.Atom.{Atom}
use Rattle.box_geo.specs.Sides.{edge, volume_of, x_of, y_of, z_of}
use Rattle.computes.specs.Quantities.{mass_at}
use Rattle.fx_num.specs.declared.numbers.Number.{Number}
use Rattle.meaning.specs.declared.settings.Body.{Body}
use Rattle.meaning.specs.declared.settings.Settings.{Settings}

abbrev pub number : List ℕ → ℤ → Number
number keyword value = record { keyword = keyword; value = value }

-- what is known of what is in a box, whether it was run or not
abbrev pub size_numbers : Body → List Number
size_numbers b =
    number (codes "vol") (pos (volume_of b.sides))
    ∷ number (codes "lx") (edge b.sides.x)
    ∷ number (codes "ly") (edge b.sides.y)
    ∷ number (codes "lz") (edge b.sides.z)
    ∷ []

abbrev pub box_numbers : ℤ → Body → List Number
box_numbers dt b =
    number (codes "step") (pos b.step)
    ∷ number (codes "atoms") (pos (length b.atoms))
    ∷ number (codes "time") (pos b.step *ℤ dt)
    ∷ size_numbers b

abbrev pub boxed_numbers : ℤ → Option Body → List Number
boxed_numbers dt None = []
boxed_numbers dt (Some b) = box_numbers dt b

-- without a box the timestep alone; and what the last run left known
abbrev pub known_in : Settings → List Number
known_in s = number (codes "dt") s.setup.timestep ∷ boxed_numbers s.setup.timestep s.body ++ s.known

-- of an atom
abbrev pub motion_numbers : Atom → List Number
motion_numbers a =
    number (codes "x") (x_of a.x)
    ∷ number (codes "y") (y_of a.x)
    ∷ number (codes "z") (z_of a.x)
    ∷ number (codes "vx") (x_of a.v)
    ∷ number (codes "vy") (y_of a.v)
    ∷ number (codes "vz") (z_of a.v)
    ∷ []

abbrev pub kind_numbers : List ℤ → Atom → List Number
kind_numbers mass a =
    number (codes "id") (pos a.id)
    ∷ number (codes "type") (pos a.kind)
    ∷ number (codes "mass") (mass_at mass a.kind)
    ∷ []

abbrev pub atom_numbers : List ℤ → Atom → List Number
atom_numbers mass a = kind_numbers mass a ++ motion_numbers a
