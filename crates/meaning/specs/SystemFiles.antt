-- `read_data`: what is in the box, from a data file, and coefficients of pairs. `write_data`: what is in the box, as a data file.
use Rattle.std.specs.Prelude.{◌==◌, ◌||◌, Bool, cond, not, is_some, nat_le, ℕ, ℤ, Option, Some, None, unwrap_or, Result, Ok, Err, List, [], ◌∷◌, length}
use Rattle.std.specs.List.{list_any}
use Rattle.data_file.specs.declared.contents.PairLine.{PairLine}
use Rattle.data_file.specs.declared.fault.DataFault.{DataFault}
use Rattle.box_geo.specs.declared.styles.AtomStyle.{AtomStyle}
use Rattle.data_file.specs.Data.{Contents, data_of}
use Rattle.data_text.specs.DataText.{data_text}
use Rattle.meaning.specs.declared.code.Code.{Code}
use Rattle.meaning.specs.declared.code.Code.TheVariants.{BoxExists, DataLine, FileTooLong, NoBox, NoFile}
use Rattle.meaning.specs.declared.settings.Body.{Body}
use Rattle.meaning.specs.declared.settings.Settings.{Settings}
use Rattle.meaning.specs.declared.uses.NameUse.{NameUse}
use Rattle.meaning.specs.declared.uses.UseKind.TheVariants.{Fetched, Put}
use Rattle.meaning.specs.Outcome.{Outcome, answered, refused}
use Rattle.meaning.specs.Output.{after_shown, with_uses}
use Rattle.meaning.specs.Shown.{put_anew}
use Rattle.pair_lj.specs.declared.pair_settings.PairCoefficients.{PairCoefficients}
use Rattle.pair_lj.specs.Pairs.{is_covered, set_pair}
use Rattle.meaning.specs.Uses.{names}
use Rattle.outside.specs.declared.files.File.{File}
use Rattle.outside.specs.declared.shelf.TheConstants.{MAX_FETCHED}
use Rattle.outside.specs.Stock.{content}

-- a text of at most so many bytes, or why there is none
abbrev pub within : ℕ → Option (List ℕ) → Result (List ℕ) Code
within limit None = Err NoFile
within limit (Some text) = cond (nat_le (length text) limit) (Ok text) (Err FileTooLong)

abbrev pub fetched : ℕ → List File → List ℕ → Result (List ℕ) Code
fetched limit files name = within limit (content files name)

-- what is in the box, at step 0
abbrev pub body_of : Contents → Body
body_of c = record { step = 0; sides = c.sides; mass = c.mass; atoms = c.atoms; bonds = c.bonds; angles = c.angles }

-- a line of Pair Coeffs sets the pair of its type with itself; without a cutoff of its own that of the style counts
abbrev pub pair_of : ℤ → PairLine → PairCoefficients
pair_of cutoff p = record { i = p.kind; j = p.kind; epsilon = p.epsilon; sigma = p.sigma; cutoff = unwrap_or p.cutoff cutoff }

abbrev pub with_lines : ℤ → List PairLine → List PairCoefficients → List PairCoefficients
with_lines cutoff [] pairs = pairs
with_lines cutoff (p ∷ lines) pairs = with_lines cutoff lines (set_pair (pair_of cutoff p) pairs)

-- a size above four times the cutoff that counts
abbrev pub is_uncovered_line : ℤ → PairLine → Bool
is_uncovered_line cutoff p = not (is_covered (pair_of cutoff p).cutoff (pair_of cutoff p))

-- the pairs that are set with those of the lines; lines need a pair style, and their sizes the cutoffs that count
abbrev pub pairs_with : Option ℤ → List PairLine → List PairCoefficients → Result (List PairCoefficients) Code
pairs_with None lines pairs = cond (length lines == 0) (Ok pairs) (Err DataLine)
pairs_with (Some cutoff) lines pairs = cond (list_any (is_uncovered_line cutoff) lines) (Err DataLine) (Ok (with_lines cutoff lines pairs))

-- bond and angle styles are not built yet, so sections of their coefficients have no style, with or without lines
abbrev pub has_bonded_lines : Contents → Bool
has_bonded_lines c = c.has_bond || c.has_angle

abbrev pub with_pairs : Settings → Contents → Result (List PairCoefficients) Code → Result Settings Code
with_pairs s c (Ok pairs) = Ok (record s { body = Some (body_of c); force = record s.force { pairs = pairs } })
with_pairs s c (Err why) = Err why

-- the settings with what a file says
abbrev pub taken : Contents → Settings → Result Settings Code
taken c s = cond (has_bonded_lines c) (Err DataLine) (with_pairs s c (pairs_with s.force.pair_style c.pair s.force.pairs))

abbrev pub used : List NameUse → Result Settings Code → Result Settings Code
used uses (Ok s) = Ok (with_uses s uses)
used uses (Err why) = Err why

-- a line that the format does not allow
abbrev pub with_data : Settings → List NameUse → Result Contents (ℕ × DataFault) → Outcome
with_data s uses (Ok c) = answered s (used uses (taken c s))
with_data s uses (Err line) = refused s DataLine

abbrev pub with_file : Settings → List NameUse → Result (List ℕ) Code → Outcome
with_file s uses (Ok text) = with_data s uses (data_of s.setup.style s.setup.periodic s.setup.dim text)
with_file s uses (Err why) = refused s why

-- the name is judged before the file is fetched, and so is whether there is a box
abbrev pub before_fetch : List File → List ℕ → Settings → Result (List NameUse) Code → Outcome
before_fetch files name s (Ok uses) = cond (is_some s.body) (refused s BoxExists) (with_file s uses (fetched MAX_FETCHED files name))
before_fetch files name s (Err why) = refused s why

abbrev pub read_data : List File → List ℕ → Settings → Outcome
read_data files name s = before_fetch files name s (names Fetched name s.output.uses)

-- the text of a data file of what is in the box
abbrev pub text_of_body : AtomStyle → Body → List ℕ
text_of_body style b = data_text b.step b.sides b.mass b.atoms b.bonds b.angles style

abbrev pub with_box : List ℕ → Settings → List NameUse → Option Body → Outcome
with_box name s uses (Some b) = after_shown s (put_anew name (text_of_body s.setup.style b) uses)
with_box name s uses None = refused s NoBox

-- the name is judged before whether there is a box
abbrev pub before_put : List ℕ → Settings → Result (List NameUse) Code → Outcome
before_put name s (Ok uses) = with_box name s uses s.body
before_put name s (Err why) = refused s why

abbrev pub write_data : List ℕ → Settings → Outcome
write_data name s = before_put name s (names Put name s.output.uses)
