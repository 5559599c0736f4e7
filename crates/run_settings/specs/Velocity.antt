-- What `velocity` does once its components are in the units of the box, step by step.
use Rattle.std.specs.Prelude.{◌&&◌, Bool, true, false, cond, not, ℕ, ℤ, Option, Some, None, Result, Ok, Err, List}
use Rattle.box_geo.specs.declared.atoms.Atom.{Atom}
use Rattle.command_words.specs.declared.velocity.VelocityAction.{VelocityAction}
use Rattle.command_words.specs.declared.velocity.VelocityAction.TheVariants as action
use Rattle.command_words.specs.Limits.{IsTemperature}
use Rattle.meaning.specs.declared.code.Code.{Code}
use Rattle.meaning.specs.declared.code.Code.TheVariants as code
use Rattle.meaning.specs.declared.refusal.SettingsRefusal.{SettingsRefusal}
use Rattle.meaning.specs.declared.refusal.SettingsRefusal.TheVariants as refusal
use Rattle.meaning.specs.declared.settings.Body.{Body}
use Rattle.meaning.specs.declared.setup.LatticeChoice.{LatticeChoice}
use Rattle.meaning.specs.MassesGroups.{are_massive}
use Rattle.meaning.specs.Velocity.{components, drawing_of, has_fast, is_fast, sets_fast, unless_fast}
use Rattle.run_settings.specs.declared.velocity.BoxAction.{BoxAction}
use Rattle.run_settings.specs.declared.velocity.BoxAction.TheVariants as made
use Rattle.velocity_make.specs.declared.calls.VelocityRefusal.{VelocityRefusal}
use Rattle.velocity_make.specs.declared.calls.VelocityRefusal.TheVariants as cause
use Rattle.velocity_make.specs.Make.{created, scaled, set_to, stilled, too_fast}

-- a component, and three of them, unless one is beyond the limit of speeds
abbrev pub unless_fast_component : Option ℤ → Option (Option ℤ)
unless_fast_component v = cond (is_fast v) None (Some v)

abbrev pub unless_fast_components : List (Option ℤ) → Option (List (Option ℤ))
unless_fast_components v = cond (has_fast v) None (Some v)

-- an action with the components that are set as the lattice scales them
abbrev pub box_action : Option LatticeChoice → VelocityAction → BoxAction
box_action lattice (action.Create d) = made.Create (drawing_of d)
box_action lattice (action.Set c) = made.Set (components lattice c)
box_action lattice (action.Scale t) = made.Scale t
box_action lattice action.Zero = made.Zero

abbrev pub unless_fast_action : Option LatticeChoice → VelocityAction → Option BoxAction
unless_fast_action lattice a = cond (sets_fast lattice a) None (Some (box_action lattice a))

-- whether masses count
abbrev pub rests_on_masses : BoxAction → Bool
rests_on_masses (made.Set v) = false
rests_on_masses a = true

-- a temperature is within its limits
abbrev pub BoxActionKeepsLimits : BoxAction → Type 0
BoxActionKeepsLimits (made.Create d) = IsTemperature d.temperature
BoxActionKeepsLimits (made.Scale t) = IsTemperature t
BoxActionKeepsLimits _ = Unit {0}

-- the atoms with the velocities that the group of these ids gets
abbrev pub moved_by : BoxAction → List ℤ → ℕ → List ℕ → List Atom → List Atom
moved_by (made.Create d) mass dim ids atoms = created mass dim ids d atoms
moved_by (made.Set v) mass dim ids atoms = set_to ids v atoms
moved_by (made.Scale t) mass dim ids atoms = scaled mass dim ids t atoms
moved_by made.Zero mass dim ids atoms = stilled mass ids atoms

-- a refusal as commands tell it
abbrev pub refusal_of : VelocityRefusal → SettingsRefusal
refusal_of (cause.SpeedRange id) = refusal.Code code.SpeedRange
refusal_of cause.NoMemory = refusal.NoMemory

-- the atoms, unless one of the group would be too fast
abbrev pub unless_one_fast : Option ℕ → List Atom → Result (List Atom) Code
unless_one_fast None atoms = Ok atoms
unless_one_fast (Some id) atoms = Err code.SpeedRange

abbrev pub atoms_after : BoxAction → List ℤ → ℕ → List ℕ → List Atom → Result (List Atom) Code
atoms_after a mass dim ids atoms = unless_one_fast (too_fast ids (moved_by a mass dim ids atoms)) (moved_by a mass dim ids atoms)

-- what is in the box, with the velocities that the group gets
abbrev pub members_after : BoxAction → List ℕ → Body → Result Body Code
members_after a ids b = unless_fast (too_fast ids (moved_by a b.mass b.sides.dim ids b.atoms)) b (moved_by a b.mass b.sides.dim ids b.atoms)

abbrev pub body_after : BoxAction → List ℕ → Body → Result Body Code
body_after a ids b = cond (rests_on_masses a && not (are_massive b.mass)) (Err code.Unset) (members_after a ids b)
