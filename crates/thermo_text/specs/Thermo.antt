-- Thermo output. A header names the columns, a line gives their numbers, a footer ends a run.
--
-- Cells are parted by one space and set right: whole numbers in 10 places, fixed numbers in 20; a longer one takes what it needs. Each text is one line, with its line feed.
use Rattle.std.specs.Prelude.{◌-◌, ◌^◌, ◌≤◌, ◌==◌, Bool, true, false, cond, ℕ, ℤ, pos, Option, List, [], ◌∷◌, ◌++◌, length, map, replicate, unwrap_or, drop, codes, unsigned_abs, All, IsSomeAnd}
use Rattle.std.specs.Fmt.{decimal, signed_decimal}
use Rattle.std.specs.List.{find, join_with_byte}
use Rattle.std.specs.Str.{bytes_eq}
use Rattle.fx_num.specs.declared.numbers.Number.{Number}
use Rattle.fx_num.specs.Numbers.{value_under}
use Rattle.fx_num.specs.Print.{fix_text}
use Rattle.thermo_text.specs.declared.columns.Keyword.{Keyword}
use Rattle.thermo_text.specs.declared.columns.Keyword.TheVariants.{Step, Atoms, Dt, Time, Temp, Press, Pe, Ke, Etotal, Epair, Emol, Ebond, Eangle, Vol, Lx, Ly, Lz, Compute}

-- the keyword of a column, under which its number stands
abbrev pub keyword_text : Keyword → List ℕ
keyword_text Step = codes "step"
keyword_text Atoms = codes "atoms"
keyword_text Dt = codes "dt"
keyword_text Time = codes "time"
keyword_text Temp = codes "temp"
keyword_text Press = codes "press"
keyword_text Pe = codes "pe"
keyword_text Ke = codes "ke"
keyword_text Etotal = codes "etotal"
keyword_text Epair = codes "epair"
keyword_text Emol = codes "emol"
keyword_text Ebond = codes "ebond"
keyword_text Eangle = codes "eangle"
keyword_text Vol = codes "vol"
keyword_text Lx = codes "lx"
keyword_text Ly = codes "ly"
keyword_text Lz = codes "lz"
keyword_text (Compute id) = codes "c_" ++ id

-- the columns that are not those of a compute
abbrev pub plain_columns : List Keyword
plain_columns = Step ∷ Atoms ∷ Dt ∷ Time ∷ Temp ∷ Press ∷ Pe ∷ Ke ∷ Etotal ∷ Epair ∷ Emol ∷ Ebond ∷ Eangle ∷ Vol ∷ Lx ∷ Ly ∷ Lz ∷ []

-- the column of a keyword, if the word is one
abbrev pub plain_column : List ℕ → Option Keyword
plain_column word = find (λ k. bytes_eq (keyword_text k) word) plain_columns

-- the column of a word of `thermo_style`: that of the keyword, and otherwise that of the compute whose id stands behind `c_`
abbrev pub column_of : List ℕ → Keyword
column_of word = unwrap_or (plain_column word) (Compute (drop 2 word))

-- the name of a column in the header
abbrev pub column_name : Keyword → List ℕ
column_name Step = codes "Step"
column_name Atoms = codes "Atoms"
column_name Dt = codes "Dt"
column_name Time = codes "Time"
column_name Temp = codes "Temp"
column_name Press = codes "Press"
column_name Pe = codes "PotEng"
column_name Ke = codes "KinEng"
column_name Etotal = codes "TotEng"
column_name Epair = codes "E_pair"
column_name Emol = codes "E_mol"
column_name Ebond = codes "E_bond"
column_name Eangle = codes "E_angle"
column_name Vol = codes "Volume"
column_name Lx = codes "Lx"
column_name Ly = codes "Ly"
column_name Lz = codes "Lz"
column_name (Compute id) = codes "c_" ++ id

-- whether a column's number is whole, and not in units
abbrev pub is_whole : Keyword → Bool
is_whole Step = true
is_whole Atoms = true
is_whole k = false

-- a text set right in a number of places
abbrev pub padded : ℕ → List ℕ → List ℕ
padded width text = replicate (width - length text) 32 ++ text

abbrev pub width_of : Keyword → ℕ
width_of k = cond (is_whole k) 10 20

abbrev pub number_text : Keyword → ℤ → List ℕ
number_text k v = cond (is_whole k) (signed_decimal v) (fix_text v)

-- the number of a column
abbrev pub number_of : List Number → Keyword → ℤ
number_of numbers k = unwrap_or (value_under numbers (keyword_text k)) (pos 0)

-- what parts the cell at a place, counted from 0, from those before it
abbrev pub separator_at : ℕ → List ℕ
separator_at place = cond (place == 0) [] (32 ∷ [])

-- cells as one line
abbrev pub row_text : List (List ℕ) → List ℕ
row_text cells = join_with_byte 32 cells ++ 10 ∷ []

-- a column's cell in the header
abbrev pub name_cell : Keyword → List ℕ
name_cell k = padded (width_of k) (column_name k)

-- a column's cell in a line
abbrev pub number_cell : List Number → Keyword → List ℕ
number_cell numbers k = padded (width_of k) (number_text k (number_of numbers k))

unfoldable pub header_text : List Keyword → List ℕ
header_text columns = row_text (map name_cell columns)

-- the numbers have one under the keyword, of magnitude at most 2^98
abbrev pub HasNumber : List Number → Keyword → Type 0
HasNumber numbers k = IsSomeAnd (value_under numbers (keyword_text k)) (λ v. unsigned_abs v ≤ 2 ^ 98)

-- every column has its number
abbrev pub HasEachNumber : List Number → List Keyword → Type 0
HasEachNumber numbers columns = All (HasNumber numbers) columns

unfoldable pub line_text : List Keyword → List Number → List ℕ
line_text columns numbers = row_text (map (number_cell numbers) columns)

-- how many pairs of atoms were nearer than the sum of the greatest cutoff and the skin at the last build, and how many builds the run made after its set-up
unfoldable pub footer_text : ℕ → ℕ → List ℕ
footer_text pairs builds = codes "Neighbor pairs " ++ decimal pairs ++ codes " builds " ++ decimal builds ++ 10 ∷ []

-- the columns of style one
abbrev pub style_one : List Keyword
style_one = Step ∷ Temp ∷ Epair ∷ Emol ∷ Etotal ∷ Press ∷ []
