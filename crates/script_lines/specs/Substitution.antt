-- What stands for the names and formulas in words.
use Rattle.std.specs.Prelude.{◌≡◌, ◌+◌, ◌-◌, ◌==◌, ◌&&◌, ◌||◌, Bool, true, false, cond, nat_le, ℕ, Result, Ok, Err, List, [], ◌∷◌, ◌++◌}
use Rattle.std.specs.Char.{is_ascii_alphanumeric}
use Rattle.fx_num.specs.declared.faults.VarFault.{VarFault}
use Rattle.script_lines.specs.declared.substitution.Reference.{Reference}
use Rattle.script_lines.specs.declared.substitution.Reference.TheVariants.{Outside, Dollar, Name, Formula}
use Rattle.script_lines.specs.declared.refusals.ExpandRefusal.{ExpandRefusal}
use Rattle.script_lines.specs.declared.refusals.ExpandRefusal.TheVariants.{BadDollar, Inner, NoMemory}
use Rattle.script_lines.specs.declared.words.RawWord.{RawWord}
use Rattle.script_lines.specs.Modes.{is_blank}
use Rattle.script_lines.specs.Table.{Table}

-- a letter, a digit or `_`: a name of one byte needs no braces
abbrev pub is_name_byte : ℕ → Bool
is_name_byte c = is_ascii_alphanumeric c || (c == 95)

-- what a byte adds to a text, and how the text goes on
pub record Step : Type 0 where
  pub added : List ℕ
  pub reference : Reference

abbrev pub goes_on : Reference → Result Step ExpandRefusal
goes_on reference = Ok record { added = []; reference = reference }

-- the text that a name or formula stands for
abbrev pub value_step : Result (List ℕ) VarFault → Result Step ExpandRefusal
value_step (Ok text) = Ok record { added = text; reference = Outside }
value_step (Err fault) = Err (Inner fault)

-- a byte of the name in `${ }`
abbrev pub named : Table → List ℕ → ℕ → Result Step ExpandRefusal
named table [] at = Err (BadDollar at)
named table (d ∷ name) at = value_step (table.names (d ∷ name))

abbrev pub name_step : Table → List ℕ → ℕ → ℕ → Result Step ExpandRefusal
name_step table name at c = cond (c == 125) (named table name at) (goes_on (Name (name ++ c ∷ [])))

-- how many parentheses are open behind a byte of a formula
abbrev pub depth_behind : ℕ → ℕ → ℕ
depth_behind depth c = cond (c == 40) (depth + 1) (cond (c == 41) (depth - 1) depth)

-- a byte of the formula in `$( )`, which ends with the last open parenthesis
abbrev pub formula_step : Table → ℕ → List ℕ → ℕ → Result Step ExpandRefusal
formula_step table depth text c =
    cond ((c == 41) && nat_le depth 1) (value_step (table.formulas text)) (goes_on (Formula (depth_behind depth c) (text ++ c ∷ [])))

-- a byte behind a `$`
abbrev pub dollar_step : Table → ℕ → ℕ → Result Step ExpandRefusal
dollar_step table at c =
    cond (c == 123) (goes_on (Name []))
    (cond (c == 40) (goes_on (Formula 1 [])) (cond (is_name_byte c) (value_step (table.names (c ∷ []))) (Err (BadDollar at))))

-- a byte of a text; the last `$` stands at this place
abbrev pub step : Table → Reference → ℕ → ℕ → Result Step ExpandRefusal
step table Outside at c = cond (c == 36) (goes_on Dollar) (Ok record { added = c ∷ []; reference = Outside })
step table Dollar at c = dollar_step table at c
step table (Name name) at c = name_step table name at c
step table (Formula depth text) at c = formula_step table depth text c

-- where the last `$` stands: a byte outside may be one
abbrev pub dollar_at : Reference → ℕ → ℕ → ℕ
dollar_at Outside i at = i
dollar_at _ i at = at

-- a text without references, or why there is none
abbrev pub Expansion : Type 0
Expansion = Result (List ℕ) ExpandRefusal

abbrev pub with_text : List ℕ → Expansion → Expansion
with_text added (Ok text) = Ok (added ++ text)
with_text added (Err why) = Err why

abbrev pub behind : Result Step ExpandRefusal → (Reference → Expansion) → Expansion
behind (Ok s) rest = with_text s.added (rest s.reference)
behind (Err why) rest = Err why

-- a text ends outside, or its last `$` stands for nothing
abbrev pub end_of : Reference → ℕ → Expansion
end_of Outside at = Ok []
end_of _ at = Err (BadDollar at)

-- a text from a byte on, whose place is i, with what stands for its names and formulas
abbrev pub expansion_from : Table → ℕ → Reference → ℕ → List ℕ → Expansion
expansion_from table i reference at [] = end_of reference at
expansion_from table i reference at (c ∷ text) =
    let at' = dollar_at reference i at in
    behind (step table reference at' c) (λ next. expansion_from table (i + 1) next at' text)

abbrev pub expansion : Table → List ℕ → Expansion
expansion table text = expansion_from table 0 Outside 0 text

-- the words of a text between blanks, behind the bytes of one
abbrev pub word_if_any : List ℕ → List (List ℕ)
word_if_any [] = []
word_if_any (c ∷ word) = (c ∷ word) ∷ []

abbrev pub ended_word : Bool → List ℕ → List (List ℕ)
ended_word true word = word_if_any word
ended_word false word = []

abbrev pub word_with : Bool → List ℕ → ℕ → List ℕ
word_with true word c = []
word_with false word c = word ++ c ∷ []

abbrev pub blank_words : List ℕ → List ℕ → List (List ℕ)
blank_words word [] = word_if_any word
blank_words word (c ∷ text) = ended_word (is_blank c) word ++ blank_words (word_with (is_blank c) word c) text

-- words, or the first that stands for nothing
abbrev pub Substituted : Type 0
Substituted = Result (List (List ℕ)) ExpandRefusal

abbrev pub split_words : Expansion → Substituted
split_words (Ok text) = Ok (blank_words [] text)
split_words (Err why) = Err why

-- a quoted word stands for itself; another one for the words of its text
abbrev pub words_by : Bool → Table → List ℕ → Substituted
words_by true table text = Ok (text ∷ [])
words_by false table text = split_words (expansion table text)

abbrev pub before_words : List (List ℕ) → Substituted → Substituted
before_words words (Ok more) = Ok (words ++ more)
before_words words (Err why) = Err why

abbrev pub then_words : Substituted → Substituted → Substituted
then_words (Ok words) rest = before_words words rest
then_words (Err why) rest = Err why

-- the words that a line's words stand for
abbrev pub substitution : Table → List RawWord → Substituted
substitution table [] = Ok []
substitution table (word ∷ words) = then_words (words_by word.quoted table word.text) (substitution table words)

-- a refusal is the one of a definition; want of memory may come wherever
abbrev pub RefusesExpansion : {X : Type 0} → ExpandRefusal → Result X ExpandRefusal → Type 0
RefusesExpansion (BadDollar place) meant = meant ≡ Err (BadDollar place)
RefusesExpansion (Inner fault) meant = meant ≡ Err (Inner fault)
RefusesExpansion NoMemory meant = Unit {0}

-- a call makes this step: the text grows by what the byte adds
abbrev pub MakesStep : Result Step ExpandRefusal → List ℕ → Reference → List ℕ → Type 0
MakesStep (Ok s) old reference new = (s.reference ≡ reference) × (new ≡ old ++ s.added)
MakesStep (Err why) old reference new = ⊥

-- what a call answers to a byte: the step, or the refusal
abbrev pub Makes : Result Step ExpandRefusal → Result Reference ExpandRefusal → List ℕ → List ℕ → Type 0
Makes meant (Ok reference) old new = MakesStep meant old reference new
Makes meant (Err why) old new = RefusesExpansion why meant

-- how many parentheses of `$( )` are open
abbrev pub open_in : Reference → ℕ
open_in (Formula depth text) = depth
open_in _ = 0
