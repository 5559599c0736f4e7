-- The forms of all commands: a form is the list of its places, the command's own word first.
use Rattle.std.specs.Prelude.{List}
use Rattle.command_words.specs.Setup as setup
use Rattle.command_words.specs.Lattice as lattice
use Rattle.command_words.specs.SystemFiles as system_files
use Rattle.command_words.specs.Restarts as restarts
use Rattle.command_words.specs.MassesGroups as masses_groups
use Rattle.command_words.specs.Pairs as pairs
use Rattle.command_words.specs.Bonds as bonds
use Rattle.command_words.specs.Neighbors as neighbors
use Rattle.command_words.specs.Velocity as velocity
use Rattle.command_words.specs.Fixes as fixes
use Rattle.command_words.specs.Computes as computes
use Rattle.command_words.specs.Thermo as thermo
use Rattle.command_words.specs.Dumps as dumps
use Rattle.command_words.specs.Runs as runs
use Rattle.command_words.specs.Output as output
use Rattle.command_words.specs.Variables as variables
use Rattle.command_words.specs.Flow as flow
use Rattle.command_words.specs.Session as session
use Rattle.command_words.specs.declared.forms.Form.{Form}
use Rattle.command_words.specs.declared.forms.Form.TheVariants as form
use Rattle.command_words.specs.declared.places.Place.{Place}

-- the places of a form
abbrev pub places_of : Form → List Place
places_of (form.Setup f) = setup.places f
places_of (form.Lattice f) = lattice.places f
places_of (form.SystemFiles f) = system_files.places f
places_of (form.Restarts f) = restarts.places f
places_of (form.MassesGroups f) = masses_groups.places f
places_of (form.Pairs f) = pairs.places f
places_of (form.Bonds f) = bonds.places f
places_of (form.Neighbors f) = neighbors.places f
places_of (form.Velocity f) = velocity.places f
places_of (form.Fixes f) = fixes.places f
places_of (form.Computes f) = computes.places f
places_of (form.Thermo f) = thermo.places f
places_of (form.Dumps f) = dumps.places f
places_of (form.Runs f) = runs.places f
places_of (form.Output f) = output.places f
places_of (form.Variables f) = variables.places f
places_of (form.Flow f) = flow.places f
places_of (form.Session f) = session.places f
