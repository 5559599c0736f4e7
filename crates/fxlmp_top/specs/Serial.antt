-- The serial meaning of a call: from the words and the files to the pieces and the status. It knows nothing of the code, and sums all pairs of atoms.
use Rattle.std.specs.Prelude.{cond, false, is_some, ℕ, Option, Some, None, Result, Ok, Err, List, [], ◌∷◌, ◌++◌, codes}
use Rattle.box_geo.specs.declared.limits.TheConstants.{MAX_SCRIPT_BYTES}
use Rattle.fxlmp_top.specs.declared.asked.Asked.{Asked}
use Rattle.fxlmp_top.specs.declared.asked.Definition.{Definition}
use Rattle.fxlmp_top.specs.declared.asked.LogChoice.{LogChoice}
use Rattle.fxlmp_top.specs.declared.asked.LogChoice.TheVariants.{Default, File as LogFile, Nowhere}
use Rattle.fxlmp_top.specs.declared.asked.Source.{Source}
use Rattle.fxlmp_top.specs.declared.asked.Source.TheVariants as source
use Rattle.fxlmp_top.specs.Words.{asked, default_log}
use Rattle.meaning.specs.declared.code.Code.{Code}
use Rattle.meaning.specs.declared.output.Output.{Output}
use Rattle.meaning.specs.declared.settings.Settings.{Settings}
use Rattle.meaning.specs.declared.uses.NameUse.{NameUse}
use Rattle.meaning.specs.declared.uses.UseKind.{UseKind}
use Rattle.meaning.specs.declared.uses.UseKind.TheVariants.{Fetched, Put}
use Rattle.meaning.specs.Play.{Played, play, refused_line}
use Rattle.meaning.specs.Session.{begun_with}
use Rattle.meaning.specs.Shown.{screen_name}
use Rattle.meaning.specs.SystemFiles.{within}
use Rattle.meaning.specs.Uses.{kind_of}
use Rattle.outside.specs.declared.files.File.{File}
use Rattle.outside.specs.declared.press.Piece.{Piece}
use Rattle.outside.specs.Stock.{content}
use Rattle.run_gen.specs.Script.{script_text}
use Rattle.session.specs.declared.status.Status.{Status}
use Rattle.session.specs.declared.status.Status.TheVariants.{Usage}
use Rattle.session.specs.Ends.{status_of}
use Rattle.var_table.specs.declared.styles.VarStyle.TheVariants.{Index}
use Rattle.var_table.specs.Variables.{Named, defined}

-- what a call of the program sends, how it ends, and how many terms of pairs it sums
pub record Run : Type 0 where
  pub pieces : List Piece
  pub status : Status
  pub pairs : ℕ

abbrev pub run_of : Played → Run
run_of p = record { pieces = p.pieces; status = status_of p.end; pairs = p.pairs }

-- the log's file, if there is one
abbrev pub log_of : LogChoice → Option (List ℕ)
log_of Default = Some default_log
log_of (LogFile name) = Some name
log_of Nowhere = None

-- the first uses of names: the screen, the log, and the script, unless its name has another use
abbrev pub first_use : UseKind → List ℕ → NameUse
first_use kind name = record { name = name; kind = kind; begun = false }

abbrev pub log_use : Option (List ℕ) → List NameUse
log_use (Some name) = first_use Put name ∷ []
log_use None = []

abbrev pub with_script_use : List ℕ → List NameUse → List NameUse
with_script_use script uses = cond (is_some (kind_of uses script)) uses (uses ++ first_use Fetched script ∷ [])

abbrev pub first_uses : Option (List ℕ) → List ℕ → List NameUse
first_uses log script = with_script_use script (first_use Put screen_name ∷ log_use log)

abbrev pub first_output : Asked → List ℕ → Output
first_output a script = record { every = 0; log = log_of a.log; screen = a.screen; uses = first_uses (log_of a.log) script }

-- the variables of the words, defined in order as index variables
abbrev pub defined_all : List Definition → List Named → List Named
defined_all [] vars = vars
defined_all (d ∷ more) vars = defined_all more (defined vars d.name (Index d.values))

abbrev pub first_settings : Asked → List ℕ → Settings
first_settings a script = begun_with (first_output a script) (defined_all a.vars [])

-- the name under which the generated script is run
abbrev pub generated_name : List ℕ
generated_name = codes "gen"

abbrev pub name_of : Source → List ℕ
name_of (source.File s) = s.name
name_of (source.Generated cells seed) = generated_name

-- the script's text: that of its file, which may be missing or too long, or the generated one
abbrev pub text_of : List File → Source → Result (List ℕ) Code
text_of files (source.File s) = within MAX_SCRIPT_BYTES (content files s.name)
text_of files (source.Generated cells seed) = Ok (script_text cells seed)

-- the script is played, unless it is missing or too long, which is told at line 0
abbrev pub played_text : List File → List ℕ → Settings → Result (List ℕ) Code → Played
played_text files name s (Ok text) = play files name text s
played_text files name s (Err why) = refused_line s.output name 0 why

abbrev pub played_source : List File → Asked → Source → Played
played_source files a s = played_text files (name_of s) (first_settings a (name_of s)) (text_of files s)

-- words that have a reading ask for a script
abbrev pub run_source : List File → Asked → Option Source → Run
run_source files a (Some s) = run_of (played_source files a s)
run_source files a None = record { pieces = []; status = Usage 0; pairs = 0 }

abbrev pub run_asked : List File → Result Asked ℕ → Run
run_asked files (Ok a) = run_source files a a.script
run_asked files (Err place) = record { pieces = []; status = Usage place; pairs = 0 }

-- the serial meaning of the words over the files of a shelf
unfoldable pub serial : List File → List (List ℕ) → Run
serial files words = run_asked files (asked words)
