-- Small files worked out.
use Rattle.std.specs.Prelude.{◌≡◌, true, ℕ, refl, Result, Err, List, [], ◌∷◌, ◌++◌, codes}
use Rattle.box_geo.specs.declared.styles.AtomStyle.TheVariants as style
use Rattle.data_file.specs.declared.fault.DataFault.{DataFault}
use Rattle.data_file.specs.declared.fault.DataFault.TheVariants as fault
use Rattle.data_file.specs.Data.{data_of, finished, judge, Contents}
use Rattle.data_file.specs.Fields.{whole_field}
use Rattle.data_file.specs.Header.{ends, header_line, keyword_of, number_line}
use Rattle.data_file.specs.Sections.{section_of}
use Rattle.data_file.specs.Words.{without_comment, word, words_of}
use Rattle.fx_num.specs.Decimal.{read_count}

-- lines, each with its line feed
abbrev text_of : List (List ℕ) → List ℕ
text_of [] = []
text_of (line ∷ lines) = line ++ (10 ∷ text_of lines)

abbrev reads : List (List ℕ) → Result Contents (ℕ × DataFault)
reads lines = data_of style.Atomic (true ∷ true ∷ true ∷ []) 3 (text_of lines)

-- a text without lines lacks something at line 1
nothing : reads [] ≡ Err (1, fault.Missing)
unfolding data_of finished
nothing = refl

-- counts that are too great
too_many : reads (codes "t" ∷ codes "1048577 atoms" ∷ []) ≡ Err (2, fault.Limit)
unfolding data_of finished judge header_line keyword_of ends number_line whole_field read_count section_of without_comment word words_of
too_many = refl

far_too_many : reads (codes "t" ∷ [] ∷ codes "4294967296 atoms # many" ∷ []) ≡ Err (3, fault.Limit)
unfolding data_of finished judge header_line keyword_of ends number_line whole_field read_count section_of without_comment word words_of
far_too_many = refl

twenty_digits : reads (codes "t" ∷ codes "12345678901234567890 atoms" ∷ []) ≡ Err (2, fault.Number)
unfolding data_of finished judge header_line keyword_of ends number_line whole_field read_count section_of without_comment word words_of
twenty_digits = refl

-- a line that is none, a number without its line, and one given twice
no_line : reads (codes "t" ∷ codes "3 apples" ∷ []) ≡ Err (2, fault.NotALine)
unfolding data_of finished judge header_line keyword_of ends number_line whole_field read_count section_of without_comment word words_of
no_line = refl

two_numbers : reads (codes "t" ∷ codes "3 3 bond types" ∷ []) ≡ Err (2, fault.Count)
unfolding data_of finished judge header_line keyword_of ends number_line whole_field read_count section_of without_comment word words_of
two_numbers = refl

given_twice : reads (codes "t" ∷ codes "3 atoms" ∷ codes "4 atoms" ∷ []) ≡ Err (3, fault.Twice)
unfolding data_of finished judge header_line keyword_of ends number_line whole_field read_count section_of without_comment word words_of
given_twice = refl
