-- What a formula's text says: lexemes in order, with blanks between them; and the lexemes of a tree.
use Rattle.std.specs.Prelude.{◌≡◌, codes, Bool, true, false, ℕ, ℤ, Option, Some, List, [], ◌∷◌, ◌++◌, length}
use Rattle.formula.specs.declared.tree.Expr.{Expr}
use Rattle.formula.specs.declared.tree.Expr.TheOpen.{Expr-F}
use Rattle.formula.specs.declared.tree.Expr.TheFolds.{fold-Expr}
use Rattle.formula.specs.declared.tree.Operator.{Operator}
use Rattle.formula.specs.declared.tree.Operator.TheVariants.{Or, And, Equal, NotEqual, Less, LessEqual, Greater, GreaterEqual, Add, Subtract, Multiply, Divide, Remainder, Power}
use Rattle.formula.specs.declared.tree.Sign.{Sign}
use Rattle.formula.specs.declared.tree.Sign.TheVariants.{Minus, Not}
use Rattle.formula.specs.declared.tree.Function.{Function}
use Rattle.formula.specs.Words.{function_of, is_operand_name}
use Rattle.formula.specs.Numbers.{literal_of, begins_number}
use Rattle.formula.specs.Reading.{is_blank}

-- a lexeme, with the place of its first byte where the tree keeps it
pub data Lexeme : Type 0 where
  Literal : ℕ → Option ℤ → Lexeme
  Name : ℕ → List ℕ → Lexeme
  FunctionName : ℕ → Function → Lexeme
  OperatorMark : ℕ → Operator → Lexeme
  SignMark : Sign → Lexeme
  Opening : Lexeme
  Closing : Lexeme

abbrev pub operator_text : Operator → List ℕ
operator_text Or = codes "||"
operator_text And = codes "&&"
operator_text Equal = codes "=="
operator_text NotEqual = codes "!="
operator_text Less = codes "<"
operator_text LessEqual = codes "<="
operator_text Greater = codes ">"
operator_text GreaterEqual = codes ">="
operator_text Add = codes "+"
operator_text Subtract = codes "-"
operator_text Multiply = codes "*"
operator_text Divide = codes "/"
operator_text Remainder = codes "%"
operator_text Power = codes "^"

abbrev pub sign_text : Sign → List ℕ
sign_text Minus = codes "-"
sign_text Not = codes "!"

-- a decimal text of a formula has no sign
abbrev pub is_unsigned : List ℕ → Bool
is_unsigned [] = false
is_unsigned (c ∷ text) = begins_number c

-- these bytes, at this place, are the lexeme
abbrev pub IsLexeme : ℕ → List ℕ → Lexeme → Type 0
IsLexeme at bytes (Literal place units) = (place ≡ at) × (is_unsigned bytes ≡ true) × (literal_of bytes ≡ Some units)
IsLexeme at bytes (Name place name) = (place ≡ at) × (bytes ≡ name) × (is_operand_name name ≡ true)
IsLexeme at bytes (FunctionName place f) = (place ≡ at) × (function_of bytes ≡ Some f)
IsLexeme at bytes (OperatorMark place o) = (place ≡ at) × (bytes ≡ operator_text o)
IsLexeme at bytes (SignMark s) = bytes ≡ sign_text s
IsLexeme at bytes Opening = bytes ≡ codes "("
IsLexeme at bytes Closing = bytes ≡ codes ")"

-- a text is these lexemes in order, with blanks before, between and behind them
pub data Spells : List ℕ → List Lexeme → Type 0 where
  nothing : Spells [] []
  and_blank : (text : List ℕ) (lexemes : List Lexeme) (c : ℕ) → is_blank c ≡ true → Spells text lexemes → Spells (text ++ c ∷ []) lexemes
  and_lexeme : (text : List ℕ) (lexemes : List Lexeme) (bytes : List ℕ) (one : Lexeme) → IsLexeme (length text) bytes one → Spells text lexemes → Spells (text ++ bytes) (lexemes ++ one ∷ [])

-- the lexemes of a tree, from left to right
abbrev pub spelling_step : Expr-F (List Lexeme) → List Lexeme
spelling_step (Expr-F.Number place units) = Literal place units ∷ []
spelling_step (Expr-F.Named place name) = Name place name ∷ []
spelling_step (Expr-F.Group inner) = Opening ∷ (inner ++ Closing ∷ [])
spelling_step (Expr-F.Call place f inner) = FunctionName place f ∷ (Opening ∷ (inner ++ Closing ∷ []))
spelling_step (Expr-F.Signed s inner) = SignMark s ∷ inner
spelling_step (Expr-F.Binary place o left right) = left ++ (OperatorMark place o ∷ right)

abbrev pub spelling : Expr → List Lexeme
spelling tree = fold-Expr (List Lexeme) spelling_step tree
