-- What each call makes of all atoms, and how it is refused.
use Rattle.std.specs.Prelude.{◌≡◌, cond, true, false, Bool, ℕ, ℤ, Option, Some, None, Result, Ok, Err, List, length, map, Contains}
use Rattle.box_geo.specs.declared.atoms.Atom.{Atom}
use Rattle.computes.specs.Quantities.{freedom, kinetic_sum}
use Rattle.velocity_make.specs.declared.changes.Change.TheVariants.{Set, TakeOff}
use Rattle.velocity_make.specs.declared.calls.Drawing.{Drawing}
use Rattle.velocity_make.specs.declared.calls.VelocityRefusal.{VelocityRefusal}
use Rattle.velocity_make.specs.declared.calls.VelocityRefusal.TheVariants.{SpeedRange}
use Rattle.velocity_make.specs.Change.{changed_all, is_slow, least_fast, scaling, with_velocity}
use Rattle.velocity_make.specs.Draw.{draw_of}
use Rattle.velocity_make.specs.Group.{is_member, mass_of, mean, members}

-- an atom with the velocity of its draw, if it is of the group
abbrev pub drawn : List ℤ → ℕ → List ℕ → ℕ → Atom → Atom
drawn mass dim ids seed a = cond (is_member ids a) (with_velocity a (draw_of dim seed a.id (mass_of mass a))) a

abbrev pub drawn_all : List ℤ → ℕ → List ℕ → ℕ → List Atom → List Atom
drawn_all mass dim ids seed atoms = map (drawn mass dim ids seed) atoms

-- the mean velocity of the group taken off its atoms
unfoldable pub stilled : List ℤ → List ℕ → List Atom → List Atom
stilled mass ids atoms = changed_all ids (TakeOff (mean mass (members ids atoms))) atoms

-- the group at a temperature
unfoldable pub scaled : List ℤ → ℕ → List ℕ → ℤ → List Atom → List Atom
scaled mass dim ids t atoms =
    changed_all ids (scaling t (kinetic_sum mass (members ids atoms)) (freedom dim (length (members ids atoms)))) atoms

-- the mean is taken off if asked
unfoldable pub settled : List ℤ → List ℕ → Bool → List Atom → List Atom
settled mass ids still atoms = cond still (stilled mass ids atoms) atoms

-- what becomes of draws: the mean is taken off if asked, and then all are scaled
abbrev pub finished : List ℤ → ℕ → List ℕ → Drawing → List Atom → List Atom
finished mass dim ids d draws = scaled mass dim ids d.temperature (settled mass ids d.still draws)

-- each atom of the group is drawn, and the draws are finished
abbrev pub created : List ℤ → ℕ → List ℕ → Drawing → List Atom → List Atom
created mass dim ids d atoms = finished mass dim ids d (drawn_all mass dim ids d.seed atoms)

-- the components that are given
unfoldable pub set_to : List ℕ → List (Option ℤ) → List Atom → List Atom
set_to ids given atoms = changed_all ids (Set given) atoms

-- a call is refused where an atom of the group is too fast afterwards, with the least id
abbrev pub answer_of : Option ℕ → Result Unit VelocityRefusal
answer_of None = Ok tt
answer_of (Some id) = Err (SpeedRange id)

-- a refusal for a speed names the atom
abbrev pub TellsOf : Result Unit VelocityRefusal → Option ℕ → Type 0
TellsOf result fast = (id : ℕ) → result ≡ Err (SpeedRange id) → fast ≡ Some id

-- the least id of the group's atoms that are too fast
abbrev pub too_fast : List ℕ → List Atom → Option ℕ
too_fast ids atoms = least_fast ids None atoms

-- an atom of the list is of the group and too fast
pub record HasFast (ids : List ℕ) (atoms : List Atom) (a : Atom) : Type 0 where
  pub there : Contains atoms a
  pub member : is_member ids a ≡ true
  pub fast : is_slow a ≡ false
