-- Reading a command.
--
-- The words of a line name a command by the first one. Where no form of that command has so many words, the count is refused. Else the
-- words are those of a form, or the first word is refused with which the words so far begin no form; that is the one at which the
-- form stops that goes farthest. Of the words of a form the command is made, or the first number at fault is refused.
use Rattle.std.specs.Prelude.{◌&&◌, ◌-◌, Bool, false, cond, ℕ, min, Option, Some, None, Result, Ok, Err, List, [], ◌∷◌, length}
use Rattle.std.specs.List.{list_any}
use Rattle.command_words.specs.Setup as setup_commands
use Rattle.command_words.specs.Lattice as lattice_commands
use Rattle.command_words.specs.SystemFiles as system_files_commands
use Rattle.command_words.specs.Restarts as restarts_commands
use Rattle.command_words.specs.MassesGroups as masses_groups_commands
use Rattle.command_words.specs.Pairs as pairs_commands
use Rattle.command_words.specs.Bonds as bonds_commands
use Rattle.command_words.specs.Neighbors as neighbors_commands
use Rattle.command_words.specs.Velocity as velocity_commands
use Rattle.command_words.specs.Fixes as fixes_commands
use Rattle.command_words.specs.Computes as computes_commands
use Rattle.command_words.specs.Thermo as thermo_commands
use Rattle.command_words.specs.Dumps as dumps_commands
use Rattle.command_words.specs.Runs as runs_commands
use Rattle.command_words.specs.Output as output_commands
use Rattle.command_words.specs.Variables as variables_commands
use Rattle.command_words.specs.Flow as flow_commands
use Rattle.command_words.specs.Session as session_commands
use Rattle.command_words.specs.Forms.{places_of}
use Rattle.command_words.specs.Places.{has_count, stuck, takes}
use Rattle.command_words.specs.Values.{then, word}
use Rattle.command_words.specs.declared.command.Command.{Command}
use Rattle.command_words.specs.declared.forms.Form.{Form}
use Rattle.command_words.specs.declared.forms.Form.TheVariants as form
use Rattle.command_words.specs.declared.forms.TheConstants.{FORMS}
use Rattle.command_words.specs.declared.places.Place.{Place}
use Rattle.command_words.specs.declared.places.Place.TheVariants as place
use Rattle.command_words.specs.declared.refusal.WordRefusal.{WordRefusal}
use Rattle.command_words.specs.declared.refusal.WordRefusal.TheVariants.{BadWord, UnknownCommand, WordCount}

-- a form is of the command of this name
abbrev pub begins : List Place → List ℕ → Bool
begins [] text = false
begins (place.One k ∷ places) text = takes k text
begins (place.Many k ∷ places) text = false
begins (place.Counted k ∷ places) text = false
begins (place.Rest ∷ places) text = false
begins (place.Branches ∷ places) text = false
begins (place.Options o ∷ places) text = false
begins (place.SomeOptions o ∷ places) text = false

-- a command has this name
abbrev pub is_known : List Form → List ℕ → Bool
is_known forms text = list_any (λ f. begins (places_of f) text) forms

-- a form of it has so many words
abbrev pub is_counted_by : Form → List ℕ → ℕ → Bool
is_counted_by f text n = begins (places_of f) text && has_count (places_of f) n

abbrev pub is_counted : List Form → List ℕ → ℕ → Bool
is_counted forms text n = list_any (λ f. is_counted_by f text n) forms

-- the first form that takes all words and misses none; else the fewest words that are left where a form takes no more
abbrev pub best_from : Form → Option ℕ → (ℕ → Result Form ℕ) → ℕ → Result Form ℕ
best_from f None next fewest = Ok f
best_from f (Some left) next fewest = next (min fewest left)

abbrev pub best : List Form → List (List ℕ) → ℕ → Result Form ℕ
best [] words fewest = Err fewest
best (f ∷ forms) words fewest = best_from f (stuck (places_of f) words) (best forms words) fewest

-- the form of the words, or the first word at fault
abbrev pub form_or : ℕ → Result Form ℕ → Result Form WordRefusal
form_or n (Ok f) = Ok f
form_or n (Err left) = Err (BadWord (n - left))

unfoldable pub form_among : List Form → List (List ℕ) → Result Form WordRefusal
form_among forms words =
    cond (is_known forms (word 0 words))
    (cond (is_counted forms (word 0 words) (length words)) (form_or (length words) (best forms words (length words))) (Err WordCount))
    (Err UnknownCommand)

abbrev pub form_of : List (List ℕ) → Result Form WordRefusal
form_of words = form_among FORMS.now words

-- the command of the words of a form, or the first number at fault
abbrev pub make : Form → List (List ℕ) → Result Command WordRefusal
make (form.Setup f) words = setup_commands.make f words
make (form.Lattice f) words = lattice_commands.make f words
make (form.SystemFiles f) words = Ok (system_files_commands.make f words)
make (form.Restarts f) words = restarts_commands.make f words
make (form.MassesGroups f) words = masses_groups_commands.make f words
make (form.Pairs f) words = pairs_commands.make f words
make (form.Bonds f) words = bonds_commands.make f words
make (form.Neighbors f) words = neighbors_commands.make f words
make (form.Velocity f) words = velocity_commands.make f words
make (form.Fixes f) words = fixes_commands.make f words
make (form.Computes f) words = Ok (computes_commands.make f words)
make (form.Thermo f) words = thermo_commands.make f words
make (form.Dumps f) words = dumps_commands.make f words
make (form.Runs f) words = runs_commands.make f words
make (form.Output f) words = Ok (output_commands.make f words)
make (form.Variables f) words = variables_commands.make f words
make (form.Flow f) words = Ok (flow_commands.make f words)
make (form.Session f) words = Ok (session_commands.make f)

-- the command of the words of a line
unfoldable pub read : List (List ℕ) → Result Command WordRefusal
read words = then (form_of words) (λ f. make f words)
