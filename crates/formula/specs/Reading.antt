-- How a formula's text is read: byte by byte, with what is open at each place. No byte is refused with which the text so far begins a formula.
use Rattle.std.specs.Prelude.{◌≡◌, ◌+◌, ◌==◌, ◌||◌, ◌&&◌, cond, nat_le, Bool, false, ℕ, ℤ, Option, Some, None, Result, Ok, Err, List, [], ◌∷◌, ◌++◌, length}
use Rattle.box_geo.specs.declared.limits.TheConstants.{MAX_FORMULA_BYTES}
use Rattle.fx_num.specs.declared.faults.FormulaFault.{FormulaFault}
use Rattle.fx_num.specs.declared.faults.FormulaFault.TheVariants.{Syntax, NoMemory}
use Rattle.formula.specs.declared.tree.Expr.{Expr}
use Rattle.formula.specs.declared.tree.Expr.TheVariants as expr
use Rattle.formula.specs.declared.tree.Operator.{Operator}
use Rattle.formula.specs.declared.tree.Operator.TheVariants.{Or, And, Equal, NotEqual, Less, LessEqual, Greater, GreaterEqual, Add, Subtract, Multiply, Divide, Remainder, Power}
use Rattle.formula.specs.declared.tree.Sign.{Sign}
use Rattle.formula.specs.declared.tree.Sign.TheVariants.{Minus, Not}
use Rattle.formula.specs.declared.tree.Function.{Function}
use Rattle.formula.specs.declared.state.Frame.{Frame}
use Rattle.formula.specs.declared.state.Frame.TheVariants.{Group, Call, Signed, Left}
use Rattle.formula.specs.declared.state.State.{State}
use Rattle.formula.specs.declared.state.State.TheVariants.{Needs, Called, Has, Number, Word, Half}
use Rattle.formula.specs.Words.{function_of, is_operand_name, is_word_front}
use Rattle.formula.specs.Numbers.{literal_of, begins_number, is_number_front}

-- how tightly an operator binds; a sign binds with 7
abbrev pub level_of : Operator → ℕ
level_of Or = 1
level_of And = 2
level_of Equal = 3
level_of NotEqual = 3
level_of Less = 4
level_of LessEqual = 4
level_of Greater = 4
level_of GreaterEqual = 4
level_of Add = 5
level_of Subtract = 5
level_of Multiply = 6
level_of Divide = 6
level_of Remainder = 6
level_of Power = 8

abbrev pub sign_level : ℕ
sign_level = 7

-- the operators of one byte that begin no other
abbrev pub operator_of : ℕ → Option Operator
operator_of c =
    cond (c == 43) (Some Add)
    (cond (c == 45) (Some Subtract)
    (cond (c == 42) (Some Multiply)
    (cond (c == 47) (Some Divide)
    (cond (c == 37) (Some Remainder)
    (cond (c == 94) (Some Power) None)))))

-- the bytes with which an operator of two bytes begins: `<`, `>`, `=`, `!`, `&`, `|`
abbrev pub begins_pair : ℕ → Bool
begins_pair c = (c == 60) || (c == 62) || (c == 61) || (c == 33) || (c == 38) || (c == 124)

-- the operator of two bytes
abbrev pub pair_of : ℕ → ℕ → Option Operator
pair_of first c =
    cond ((first == 38) && (c == 38)) (Some And)
    (cond ((first == 124) && (c == 124)) (Some Or)
    (cond ((first == 60) && (c == 61)) (Some LessEqual)
    (cond ((first == 62) && (c == 61)) (Some GreaterEqual)
    (cond ((first == 61) && (c == 61)) (Some Equal)
    (cond ((first == 33) && (c == 61)) (Some NotEqual) None)))))

-- a blank or a tab
abbrev pub is_blank : ℕ → Bool
is_blank c = (c == 32) || (c == 9)

-- the operators of one byte with which one of two bytes begins
abbrev pub single_of : ℕ → Option Operator
single_of first = cond (first == 60) (Some Less) (cond (first == 62) (Some Greater) None)

-- a sign
abbrev pub sign_of : ℕ → Option Sign
sign_of c = cond (c == 45) (Some Minus) (cond (c == 33) (Some Not) None)

-- an operand takes up what is open before it, as far as that binds at least so tightly
abbrev pub joined : ℕ → List Frame → Expr → List Frame × Expr
joined level [] operand = ([], operand)
joined level (Group ∷ frames) operand = (Group ∷ frames, operand)
joined level (Call at f ∷ frames) operand = (Call at f ∷ frames, operand)
joined level (Signed s ∷ frames) operand =
    cond (nat_le level sign_level) (joined level frames (expr.Signed s operand)) (Signed s ∷ frames, operand)
joined level (Left at o left ∷ frames) operand =
    cond (nat_le level (level_of o)) (joined level frames (expr.Binary at o left operand)) (Left at o left ∷ frames, operand)

-- an operator behind an operand: operators of one level group to the left
abbrev pub with_operator : ℕ → Operator → List Frame → Expr → List Frame
with_operator at o frames operand = Left at o (joined (level_of o) frames operand).1 ∷ (joined (level_of o) frames operand).0

-- a closing parenthesis behind all that was open in it
abbrev pub close : List Frame → Expr → Option State
close [] inner = None
close (Group ∷ frames) inner = Some (Has frames (expr.Group inner))
close (Call at f ∷ frames) inner = Some (Has frames (expr.Call at f inner))
close (Signed s ∷ frames) inner = None
close (Left at o left ∷ frames) inner = None

abbrev pub closed : List Frame → Expr → Option State
closed frames operand = close (joined 0 frames operand).0 (joined 0 frames operand).1

-- no sign stands right behind `^`, which binds more tightly
abbrev pub is_behind_power : List Frame → Bool
is_behind_power [] = false
is_behind_power (Group ∷ frames) = false
is_behind_power (Call at f ∷ frames) = false
is_behind_power (Signed s ∷ frames) = false
is_behind_power (Left at o left ∷ frames) = level_of o == level_of Power

-- behind a sign
abbrev pub signed : Option Sign → List Frame → Option State
signed None frames = None
signed (Some s) frames = cond (is_behind_power frames) None (Some (Needs (Signed s ∷ frames)))

-- where an operand is wanted: a blank, a sign, an opening parenthesis, or the first byte of an operand
abbrev pub after_need : ℕ → ℕ → List Frame → Option State
after_need at c frames =
    cond (is_blank c) (Some (Needs frames))
    (cond (c == 40) (Some (Needs (Group ∷ frames)))
    (cond (begins_number c) (Some (Number frames at (c ∷ [])))
    (cond (is_word_front (c ∷ [])) (Some (Word frames at (c ∷ []))) (signed (sign_of c) frames))))

-- behind the name of a function: a blank or the opening parenthesis
abbrev pub after_call : ℕ → List Frame → ℕ → Function → Option State
after_call c frames at f = cond (is_blank c) (Some (Called frames at f)) (cond (c == 40) (Some (Needs (Call at f ∷ frames))) None)

-- behind an operator
abbrev pub operated : ℕ → Option Operator → List Frame → Expr → Option State
operated at None frames operand = None
operated at (Some o) frames operand = Some (Needs (with_operator at o frames operand))

-- behind an operand: a blank, a closing parenthesis, an operator or the first byte of one
abbrev pub after_operand : ℕ → ℕ → List Frame → Expr → Option State
after_operand at c frames operand =
    cond (is_blank c) (Some (Has frames operand))
    (cond (c == 41) (closed frames operand)
    (cond (begins_pair c) (Some (Half frames operand at c)) (operated at (operator_of c) frames operand)))

-- behind the name of a function
abbrev pub called_by : List Frame → ℕ → Option Function → Option State
called_by frames at None = None
called_by frames at (Some f) = Some (Called frames at f)

-- the state behind a complete word
abbrev pub word_end : List Frame → ℕ → List ℕ → Option State
word_end frames at word = cond (is_operand_name word) (Some (Has frames (expr.Named at word))) (called_by frames at (function_of word))

-- behind a decimal text of this value
abbrev pub literal : List Frame → ℕ → Option (Option ℤ) → Option State
literal frames at None = None
literal frames at (Some units) = Some (Has frames (expr.Number at units))

-- the state behind a complete decimal text
abbrev pub number_end : List Frame → ℕ → List ℕ → Option State
number_end frames at text = literal frames at (literal_of text)

-- the state behind what was being read, where that is complete
abbrev pub ended : State → Option State
ended (Needs frames) = Some (Needs frames)
ended (Called frames at f) = Some (Called frames at f)
ended (Has frames operand) = Some (Has frames operand)
ended (Number frames at text) = number_end frames at text
ended (Word frames at word) = word_end frames at word
ended (Half frames operand at first) = operated at (single_of first) frames operand

-- a byte that belongs to nothing that was being read
abbrev pub outside : ℕ → ℕ → Option State → Option State
outside at c None = None
outside at c (Some (Needs frames)) = after_need at c frames
outside at c (Some (Called frames place f)) = after_call c frames place f
outside at c (Some (Has frames operand)) = after_operand at c frames operand
outside at c (Some (Number frames place text)) = None
outside at c (Some (Word frames place word)) = None
outside at c (Some (Half frames operand place first)) = None

-- a byte while a decimal text is read
abbrev pub number_step : ℕ → ℕ → List Frame → ℕ → List ℕ → Option State
number_step at c frames place text =
    cond (is_number_front (text ++ c ∷ [])) (Some (Number frames place (text ++ c ∷ []))) (outside at c (number_end frames place text))

-- a byte while a word is read
abbrev pub word_step : ℕ → ℕ → List Frame → ℕ → List ℕ → Option State
word_step at c frames place word =
    cond (is_word_front (word ++ c ∷ [])) (Some (Word frames place (word ++ c ∷ []))) (outside at c (word_end frames place word))

-- behind an operator of two bytes, or of one with which one of two begins
abbrev pub second : ℕ → Option Operator → List Frame → Expr → Option State → Option State
second place None frames operand single = single
second place (Some o) frames operand single = Some (Needs (with_operator place o frames operand))

-- a byte that may be the second of an operator
abbrev pub half_step : ℕ → ℕ → List Frame → Expr → ℕ → ℕ → Option State
half_step at c frames operand place first =
    second place (pair_of first c) frames operand (outside at c (operated place (single_of first) frames operand))

-- the state after the byte c at a place, or nothing where no formula goes on so
abbrev pub step : ℕ → ℕ → State → Option State
step at c (Needs frames) = after_need at c frames
step at c (Called frames place f) = after_call c frames place f
step at c (Has frames operand) = after_operand at c frames operand
step at c (Number frames place text) = number_step at c frames place text
step at c (Word frames place word) = word_step at c frames place word
step at c (Half frames operand place first) = half_step at c frames operand place first

-- the whole tree, where nothing is open
abbrev pub whole : List Frame → Expr → Option Expr
whole [] tree = Some tree
whole (frame ∷ frames) tree = None

abbrev pub complete : Option State → Option Expr
complete None = None
complete (Some (Has frames operand)) = whole (joined 0 frames operand).0 (joined 0 frames operand).1
complete (Some (Needs frames)) = None
complete (Some (Called frames at f)) = None
complete (Some (Number frames at text)) = None
complete (Some (Word frames at word)) = None
complete (Some (Half frames operand at first)) = None

-- the tree where the text ends, if it may end here
abbrev pub finish : State → Option Expr
finish s = complete (ended s)

-- a fault at this place where there is nothing
abbrev pub ok_or : ℕ → Option Expr → Result Expr ℕ
ok_or at None = Err at
ok_or at (Some tree) = Ok tree

abbrev pub go_on : ℕ → (State → Result Expr ℕ) → Option State → Result Expr ℕ
go_on at rest None = Err at
go_on at rest (Some next) = rest next

-- the tree of what is left of a text, or the place of the first byte with which no formula goes on; for a text that ends too early its length
abbrev pub run : ℕ → List ℕ → State → Result Expr ℕ
run at [] s = ok_or at (finish s)
run at (c ∷ text) s = go_on at (λ next. run (at + 1) text next) (step at c s)

-- a formula as a tree, or the place at fault; a text that is too long is at fault at its limit
unfoldable pub parsed : List ℕ → Result Expr ℕ
parsed text = cond (nat_le (length text) MAX_FORMULA_BYTES) (run 0 text (Needs [])) (Err MAX_FORMULA_BYTES)

-- the fault of a formula that is refused so
abbrev pub IsSyntaxFault : Result Expr ℕ → FormulaFault → Type 0
IsSyntaxFault reading (Syntax at) = reading ≡ Err at
IsSyntaxFault reading NoMemory = Unit {0}
IsSyntaxFault reading _ = ⊥
