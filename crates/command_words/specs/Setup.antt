-- What a simulation is set up with before its box.
use Rattle.std.specs.Prelude.{◌*◌, ◌||◌, Bool, cond, ℕ, nat_le, Option, Some, None, Result, Ok, Err, List, [], ◌∷◌}
use Rattle.std.specs.Str.{bytes_eq}
use Rattle.box_geo.specs.declared.limits.TheConstants.{MAX_RANKS}
use Rattle.box_geo.specs.declared.styles.AtomStyle.{AtomStyle}
use Rattle.box_geo.specs.declared.styles.AtomStyle.TheVariants as style
use Rattle.command_words.specs.Values.{is_word, then, whole, word}
use Rattle.command_words.specs.Vocabulary.{is_among, text_of}
use Rattle.command_words.specs.declared.values.TheConstants.{MAX_WHOLE}
use Rattle.command_words.specs.declared.vocabulary.Word.TheVariants as name
use Rattle.command_words.specs.declared.vocabulary.Words.TheVariants.{Star}
use Rattle.command_words.specs.declared.setup.SetupForm.{SetupForm}
use Rattle.command_words.specs.declared.setup.SetupForm.TheVariants as form
use Rattle.command_words.specs.declared.setup.TheConstants.{UNITS, DIMENSION, BOUNDARY, ATOM_STYLE, PROCESSORS, NEWTON, ATOM_MODIFY, ECHO}
use Rattle.command_words.specs.declared.places.Place.{Place}
use Rattle.command_words.specs.declared.command.Command.{Command}
use Rattle.command_words.specs.declared.command.Command.TheVariants as command
use Rattle.command_words.specs.declared.refusal.WordRefusal.{WordRefusal}
use Rattle.command_words.specs.declared.refusal.WordRefusal.TheVariants.{BadValue}

-- the places of a form
abbrev pub places : SetupForm → List Place
places form.Units = UNITS.now
places form.Dimension = DIMENSION.now
places form.Boundary = BOUNDARY.now
places form.AtomStyle = ATOM_STYLE.now
places form.Processors = PROCESSORS.now
places form.Newton = NEWTON.now
places form.AtomModify = ATOM_MODIFY.now
places form.Echo = ECHO.now

-- whether the boundary of an axis is periodic
abbrev pub is_periodic : ℕ → List (List ℕ) → Bool
is_periodic place words = is_word name.P place words || is_word name.Pp place words

-- the atom style of a word
abbrev pub atom_style : List ℕ → AtomStyle
atom_style text =
    cond (bytes_eq text (text_of name.Bond)) style.Bond
    (cond (bytes_eq text (text_of name.Angle)) style.Angle (cond (bytes_eq text (text_of name.Molecular)) style.Molecular style.Atomic))

-- how many bricks an axis has; `*` means 1
abbrev pub bricks : ℕ → List (List ℕ) → Result ℕ WordRefusal
bricks place words = cond (is_among Star (word place words)) (Ok 1) (whole place 1 MAX_WHOLE words)

-- the grid of these bricks, if there are not too many
abbrev pub grid : ℕ → ℕ → ℕ → Option (List ℕ)
grid x y z = cond (nat_le (x * y * z) MAX_RANKS) (Some (x ∷ y ∷ z ∷ [])) None

abbrev pub grid_command : Option (List ℕ) → Result Command WordRefusal
grid_command (Some counts) = Ok (command.Processors counts)
grid_command None = Err (BadValue 3)

abbrev pub processors : List (List ℕ) → Result Command WordRefusal
processors words = then (bricks 1 words) (λ x. then (bricks 2 words) (λ y. then (bricks 3 words) (λ z. grid_command (grid x y z))))

-- the command of the words of a form
abbrev pub make : SetupForm → List (List ℕ) → Result Command WordRefusal
make form.Units words = Ok command.Units
make form.Dimension words = then (whole 1 2 3 words) (λ n. Ok (command.Dimension n))
make form.Boundary words = Ok (command.Boundary (is_periodic 1 words ∷ is_periodic 2 words ∷ is_periodic 3 words ∷ []))
make form.AtomStyle words = Ok (command.AtomStyle (atom_style (word 1 words)))
make form.Processors words = processors words
make form.Newton words = Ok command.Newton
make form.AtomModify words = Ok command.AtomModify
make form.Echo words = Ok command.Echo
