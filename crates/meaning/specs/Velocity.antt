-- `velocity`: the velocities of a group are drawn, set, scaled, or rid of their mean.
use Rattle.std.specs.Prelude.{◌&&◌, ◌||◌, Bool, true, false, cond, nat_lt, not, unsigned_abs, ℕ, ℤ, Option, Some, None, Result, Ok, Err, List, slice_index_or}
use Rattle.box_geo.specs.declared.atoms.Atom.{Atom}
use Rattle.box_geo.specs.declared.limits.TheConstants.{MAX_SPEED}
use Rattle.command_words.specs.declared.velocity.Components.{Components}
use Rattle.command_words.specs.declared.velocity.Draws.{Draws}
use Rattle.command_words.specs.declared.velocity.VelocityAction.{VelocityAction}
use Rattle.command_words.specs.declared.velocity.VelocityAction.TheVariants as action
use Rattle.command_words.specs.declared.velocity.VelocityChange.{VelocityChange}
use Rattle.meaning.specs.declared.code.Code.{Code}
use Rattle.meaning.specs.declared.code.Code.TheVariants.{BadValue, NoBox, SpeedRange, UnknownName, Unset}
use Rattle.meaning.specs.declared.settings.Body.{Body}
use Rattle.meaning.specs.declared.settings.Settings.{Settings}
use Rattle.meaning.specs.declared.setup.LatticeChoice.{LatticeChoice}
use Rattle.meaning.specs.Answers.{with_body}
use Rattle.meaning.specs.Lattice.{scaled_sides, spacing_in}
use Rattle.meaning.specs.MassesGroups.{are_massive, ids_in}
use Rattle.regions_groups.specs.Groups.{is_there}
use Rattle.velocity_make.specs.declared.calls.Drawing.{Drawing}
use Rattle.velocity_make.specs.Make.{created, scaled, set_to, stilled, too_fast}

-- the components that are set, where the spacing of the lattice scales them
abbrev pub components : Option LatticeChoice → Components → List (Option ℤ)
components lattice c = scaled_sides c.scaled (spacing_in lattice) c.v

-- a component beyond the limit of speeds
abbrev pub is_fast : Option ℤ → Bool
is_fast None = false
is_fast (Some v) = nat_lt (unsigned_abs MAX_SPEED) (unsigned_abs v)

abbrev pub has_fast : List (Option ℤ) → Bool
has_fast v = is_fast (slice_index_or v 0 None) || is_fast (slice_index_or v 1 None) || is_fast (slice_index_or v 2 None)

abbrev pub sets_fast : Option LatticeChoice → VelocityAction → Bool
sets_fast lattice (action.Set c) = has_fast (components lattice c)
sets_fast lattice a = false

-- whether masses count: of all types, also where the group has no atom of one
abbrev pub wants_masses : VelocityAction → Bool
wants_masses (action.Set c) = false
wants_masses a = true

-- how velocities are drawn
abbrev pub drawing_of : Draws → Drawing
drawing_of d = record { temperature = d.temperature; seed = d.seed; still = d.still }

-- the atoms with the velocities that the group of these ids gets
abbrev pub moved : Option LatticeChoice → VelocityAction → List ℤ → ℕ → List ℕ → List Atom → List Atom
moved lattice (action.Create d) mass dim ids atoms = created mass dim ids (drawing_of d) atoms
moved lattice (action.Set c) mass dim ids atoms = set_to ids (components lattice c) atoms
moved lattice (action.Scale t) mass dim ids atoms = scaled mass dim ids t atoms
moved lattice action.Zero mass dim ids atoms = stilled mass ids atoms

-- unless one of the group would be too fast
abbrev pub unless_fast : Option ℕ → Body → List Atom → Result Body Code
unless_fast None b atoms = Ok (record b { atoms = atoms })
unless_fast (Some id) b atoms = Err SpeedRange

abbrev pub moved_body : Option LatticeChoice → VelocityAction → List ℕ → Body → Result Body Code
moved_body lattice a ids b =
    cond (wants_masses a && not (are_massive b.mass)) (Err Unset)
    (unless_fast (too_fast ids (moved lattice a b.mass b.sides.dim ids b.atoms)) b (moved lattice a b.mass b.sides.dim ids b.atoms))

abbrev pub velocity_in : VelocityChange → Settings → Option Body → Result Settings Code
velocity_in v s None = Err NoBox
velocity_in v s (Some b) = with_body s (moved_body s.setup.lattice v.action (ids_in s.named.groups b.atoms v.group) b)

abbrev pub velocity : VelocityChange → Settings → Result Settings Code
velocity v s =
    cond (sets_fast s.setup.lattice v.action) (Err BadValue)
    (cond (not (is_there s.named.groups v.group)) (Err UnknownName) (velocity_in v s s.body))
