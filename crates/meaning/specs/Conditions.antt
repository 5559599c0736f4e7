-- Conditions of `if`: two words that are compared as texts, or a formula.
use Rattle.std.specs.Prelude.{◌==◌, ◌&&◌, ◌||◌, Bool, true, false, cond, not, nat_eq, ℕ, ℤ, pos, Option, Some, None, Result, Ok, Err, List, [], ◌∷◌, codes}
use Rattle.std.specs.List.{list_any, starts_with}
use Rattle.std.specs.Ordering.{int_eq}
use Rattle.std.specs.Str.{bytes_eq}
use Rattle.fx_num.specs.declared.decimal.NumError.{NumError}
use Rattle.fx_num.specs.declared.decimal.NumError.TheVariants.{NotNumber, OutOfRange, TooManyDigits}
use Rattle.fx_num.specs.Decimal.{read_number}
use Rattle.meaning.specs.declared.code.Code.{Code}
use Rattle.meaning.specs.declared.settings.Settings.{Settings}
use Rattle.meaning.specs.Variables.{formula_of, text_of}
use Rattle.script_lines.specs.Substitution.{blank_words}

-- parentheses and the characters of operators: ( ) ^ - ! * / % + < > = & |
abbrev pub is_operator_byte : ℕ → Bool
is_operator_byte c = list_any (λ d. c == d) (codes "()^-!*/%+<>=&|")

abbrev pub has_operator : List ℕ → Bool
has_operator word = list_any is_operator_byte word

-- a decimal text, also one whose value is out of range
abbrev pub is_number : Result ℤ NumError → Bool
is_number (Ok v) = true
is_number (Err OutOfRange) = true
is_number (Err NotNumber) = false
is_number (Err TooManyDigits) = false

-- what a word of a formula may be by its first characters: a number, or the name of a variable or a compute
abbrev pub is_operand : List ℕ → Bool
is_operand word = is_number (read_number word) || starts_with nat_eq word (codes "v_") || starts_with nat_eq word (codes "c_")

-- two words of which at least one is no operand, and neither has an operator
abbrev pub are_texts : List ℕ → List ℕ → Bool
are_texts a b = not (has_operator a) && not (has_operator b) && not (is_operand a && is_operand b)

abbrev pub compared : List ℕ → List ℕ → List ℕ → Option Bool
compared a sign b =
    cond (bytes_eq sign (codes "==")) (Some (bytes_eq a b)) (cond (bytes_eq sign (codes "!=")) (Some (not (bytes_eq a b))) None)

-- what the comparison of texts says, where three words are one
abbrev pub texts_compared : List (List ℕ) → Option Bool
texts_compared [] = None
texts_compared (a ∷ []) = None
texts_compared (a ∷ sign ∷ []) = None
texts_compared (a ∷ sign ∷ b ∷ []) = cond (are_texts a b) (compared a sign b) None
texts_compared (a ∷ sign ∷ b ∷ other ∷ words) = None

-- a formula holds where its value is not 0
abbrev pub is_not_zero : Result ℤ Code → Result Bool Code
is_not_zero (Ok v) = Ok (not (int_eq v (pos 0)))
is_not_zero (Err why) = Err why

abbrev pub holds_by : Settings → List ℕ → Option Bool → Result Bool Code
holds_by s text (Some holds) = Ok holds
holds_by s text None = is_not_zero (formula_of s text)

abbrev pub holds : Settings → Result (List ℕ) Code → Result Bool Code
holds s (Ok text) = holds_by s text (texts_compared (blank_words [] text))
holds s (Err why) = Err why

-- whether a condition holds: its text gets what stands for its names, and is then compared or evaluated
abbrev pub condition : Settings → List ℕ → Result Bool Code
condition s text = holds s (text_of s text)
