-- The words of the command line, read one by one:
--
--   -in F (-i)             the script's file
--   -gen N SEED            in its place the generated script, of N lattice cells along an edge, with velocities drawn by SEED
--   -log F or none (-l)    the log's file; log.lammps without it
--   -screen none (-sc)     nothing goes to the screen
--   -var NAME V .. (-v)    an index variable, with its values up to the next word that begins with `-` and a letter
--
-- Each but -var stands at most once, in any order, one of -in and -gen, and the two files differ.
use Rattle.std.specs.Prelude.{◌==◌, ◌+◌, ◌&&◌, ◌||◌, Bool, true, false, cond, is_some, nat_le, not, ℕ, Option, Some, None, Result, Ok, Err, List, [], ◌∷◌, ◌++◌, codes}
use Rattle.std.specs.Char.{is_ascii_alphabetic}
use Rattle.std.specs.Str.{bytes_eq}
use Rattle.command_words.specs.declared.limits.TheConstants.{MAX_SEED}
use Rattle.fx_num.specs.declared.decimal.NumError.{NumError}
use Rattle.fx_num.specs.Decimal.{read_count}
use Rattle.names.specs.Names.{is_compressed, is_file_name, is_id}
use Rattle.run_gen.specs.declared.generated.TheConstants.{MAX_CELLS, MIN_CELLS}
use Rattle.fxlmp_top.specs.declared.asked.Asked.{Asked}
use Rattle.fxlmp_top.specs.declared.asked.ScriptName.{ScriptName}
use Rattle.fxlmp_top.specs.declared.asked.Definition.{Definition}
use Rattle.fxlmp_top.specs.declared.asked.LogChoice.{LogChoice}
use Rattle.fxlmp_top.specs.declared.asked.LogChoice.TheVariants.{Default, File, Nowhere}
use Rattle.fxlmp_top.specs.declared.asked.Source.{Source}
use Rattle.fxlmp_top.specs.declared.asked.Source.TheVariants as source
use Rattle.fxlmp_top.specs.declared.asked.Wanted.{Wanted}
use Rattle.fxlmp_top.specs.declared.asked.Wanted.TheVariants as want

-- the log's name where the words give none
abbrev pub default_log : List ℕ
default_log = codes "log.lammps"

abbrev pub nothing_asked : Asked
nothing_asked = record { script = None; log = Default; screen = true; vars = [] }

-- what the words so far ask for, and what the next one is to be; or that a word has no reading
pub record Stand : Type 0 where
  pub asked : Asked
  pub wanted : Wanted

-- a file's name that the words may give
abbrev pub is_name : List ℕ → Bool
is_name name = is_file_name name && not (is_compressed name)

abbrev pub is_script : Option Source → List ℕ → Bool
is_script (Some (source.File s)) name = bytes_eq s.name name
is_script _ name = false

abbrev pub is_log : LogChoice → List ℕ → Bool
is_log (File log) name = bytes_eq log name
is_log Default name = false
is_log Nowhere name = false

abbrev pub is_chosen : LogChoice → Bool
is_chosen Default = false
is_chosen _ = true

-- one of two spellings
abbrev pub is_either : List ℕ → List ℕ → List ℕ → Bool
is_either long short word = bytes_eq word long || bytes_eq word short

-- it begins with `-` and a letter
abbrev pub is_letter_next : List ℕ → Bool
is_letter_next [] = false
is_letter_next (c ∷ word) = is_ascii_alphabetic c

abbrev pub is_flag : List ℕ → Bool
is_flag [] = false
is_flag (c ∷ word) = (c == 45) && is_letter_next word

-- an option, unless it stands a second time
abbrev pub unless : Bool → Asked → Wanted → Option Stand
unless given a next = cond given None (Some record { asked = a; wanted = next })

abbrev pub option_word : Asked → List ℕ → Option Stand
option_word a word =
    cond (is_either (codes "-in") (codes "-i") word) (unless (is_some a.script) a want.Script)
    (cond (bytes_eq word (codes "-gen")) (unless (is_some a.script) a want.Cells)
    (cond (is_either (codes "-log") (codes "-l") word) (unless (is_chosen a.log) a want.Log)
    (cond (is_either (codes "-screen") (codes "-sc") word) (unless (not a.screen) a want.Screen)
    (cond (is_either (codes "-var") (codes "-v") word) (unless false a want.Variable) None))))

-- the words behind options
abbrev pub stands : Asked → Option Stand
stands a = Some record { asked = a; wanted = want.Flag }

abbrev pub script_word : Asked → ℕ → List ℕ → Option Stand
script_word a place word =
    cond (is_name word && not (is_log a.log word)) (stands (record a { script = Some (source.File record { place = place; name = word }) })) None

-- the whole number that a word is, between two bounds
abbrev pub count_within : ℕ → ℕ → Result ℕ NumError → Option ℕ
count_within low high (Ok n) = cond (nat_le low n && nat_le n high) (Some n) None
count_within low high (Err why) = None

abbrev pub whole_within : ℕ → ℕ → List ℕ → Option ℕ
whole_within low high word = count_within low high (read_count word)

-- the generated script
abbrev pub with_cells : Asked → Option ℕ → Option Stand
with_cells a (Some cells) = Some record { asked = a; wanted = want.Seed cells }
with_cells a None = None

abbrev pub cells_word : Asked → List ℕ → Option Stand
cells_word a word = with_cells a (whole_within MIN_CELLS MAX_CELLS word)

abbrev pub with_seed : Asked → ℕ → Option ℕ → Option Stand
with_seed a cells (Some seed) = stands (record a { script = Some (source.Generated cells seed) })
with_seed a cells None = None

abbrev pub seed_word : Asked → ℕ → List ℕ → Option Stand
seed_word a cells word = with_seed a cells (whole_within 1 MAX_SEED word)

abbrev pub log_word : Asked → List ℕ → Option Stand
log_word a word =
    cond (bytes_eq word (codes "none")) (stands (record a { log = Nowhere }))
    (cond (is_name word && not (is_script a.script word)) (stands (record a { log = File word })) None)

abbrev pub screen_word : Asked → List ℕ → Option Stand
screen_word a word = cond (bytes_eq word (codes "none")) (stands (record a { screen = false })) None

abbrev pub variable_word : Asked → List ℕ → Option Stand
variable_word a word = cond (is_id word) (Some record { asked = a; wanted = want.Values record { name = word; values = [] } }) None

abbrev pub with_variable : Asked → Definition → Asked
with_variable a d = record a { vars = a.vars ++ d ∷ [] }

abbrev pub with_value : Asked → Definition → List ℕ → Option Stand
with_value a d word = Some record { asked = a; wanted = want.Values (record d { values = d.values ++ word ∷ [] }) }

-- a variable has at least one value
abbrev pub after_values : Asked → Definition → List (List ℕ) → List ℕ → Option Stand
after_values a d [] word = None
after_values a d (v ∷ values) word = option_word (with_variable a d) word

abbrev pub value_word : Asked → Definition → List ℕ → Option Stand
value_word a d word = cond (is_flag word) (after_values a d d.values word) (with_value a d word)

-- a word at its place
abbrev pub step : Asked → Wanted → ℕ → List ℕ → Option Stand
step a want.Flag place word = option_word a word
step a want.Script place word = script_word a place word
step a want.Cells place word = cells_word a word
step a (want.Seed cells) place word = seed_word a cells word
step a want.Log place word = log_word a word
step a want.Screen place word = screen_word a word
step a want.Variable place word = variable_word a word
step a (want.Values d) place word = value_word a d word

-- where the words end: there is a script, and its file's name is not the log's
abbrev pub checked : Asked → ScriptName → LogChoice → Result Asked ℕ
checked a s Default = cond (bytes_eq s.name default_log) (Err s.place) (Ok a)
checked a s _ = Ok a

abbrev pub with_script : Asked → ℕ → Option Source → Result Asked ℕ
with_script a count None = Err count
with_script a count (Some (source.File s)) = checked a s a.log
with_script a count (Some (source.Generated cells seed)) = Ok a

abbrev pub ends : Asked → ℕ → Result Asked ℕ
ends a count = with_script a count a.script

abbrev pub ends_in_values : Asked → Definition → ℕ → List (List ℕ) → Result Asked ℕ
ends_in_values a d count [] = Err count
ends_in_values a d count (v ∷ values) = ends (with_variable a d) count

abbrev pub end_of : Asked → Wanted → ℕ → Result Asked ℕ
end_of a want.Flag count = ends a count
end_of a (want.Values d) count = ends_in_values a d count d.values
end_of a _ count = Err count

-- the words from a place on: what they ask for, or the place of the first that has no reading, or the number of words where one is missing
abbrev pub behind : ℕ → Option Stand → (Asked → Wanted → Result Asked ℕ) → Result Asked ℕ
behind place None rest = Err place
behind place (Some s) rest = rest s.asked s.wanted

abbrev pub asked_from : ℕ → List (List ℕ) → Asked → Wanted → Result Asked ℕ
asked_from place [] a wanted = end_of a wanted place
asked_from place (word ∷ words) a wanted = behind place (step a wanted place word) (λ a' wanted'. asked_from (place + 1) words a' wanted')

abbrev pub asked : List (List ℕ) → Result Asked ℕ
asked words = asked_from 0 words nothing_asked want.Flag
