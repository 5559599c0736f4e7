-- The value of a formula whose operands are asked for by name: by its tree, or its first fault, the operands from left to right.
use Rattle.std.specs.Prelude.{◌+◌, cond, nat_lt, ℕ, ℤ, Option, Some, None, Result, Ok, Err, List}
use Rattle.box_geo.specs.declared.limits.TheConstants.{MAX_FORMULA_DEPTH}
use Rattle.fx_num.specs.declared.faults.FormulaFault.{FormulaFault}
use Rattle.fx_num.specs.declared.faults.FormulaFault.TheVariants.{DivideByZero, Range, Syntax, TooDeep}
use Rattle.formula.specs.declared.tree.Expr.{Expr}
use Rattle.formula.specs.declared.tree.Expr.TheOpen.{Expr-F}
use Rattle.formula.specs.declared.tree.Expr.TheFolds.{fold-Expr}
use Rattle.formula.specs.declared.arithmetic.Failure.{Failure}
use Rattle.formula.specs.declared.arithmetic.Failure.TheVariants as failure
use Rattle.formula.specs.Arithmetic.{limited, operation, with_sign_of, function_value}
use Rattle.formula.specs.Reading.{parsed}

-- a value in units, or the fault of a formula
abbrev pub Valued : Type 0
Valued = Result ℤ FormulaFault

-- what the operand of a name has where so many levels are open
abbrev pub Ask : Type 0
Ask = List ℕ → ℕ → Valued

-- the fault of an operation at this place
abbrev pub failed_at : ℕ → Failure → FormulaFault
failed_at place failure.DivideByZero = DivideByZero place
failed_at place failure.OutOfRange = Range place

-- the value of what stands at a place
abbrev pub at_place : ℕ → Result ℤ Failure → Valued
at_place place (Ok v) = Ok v
at_place place (Err why) = Err (failed_at place why)

-- a number that is written
abbrev pub written : ℕ → Option ℤ → Valued
written place (Some v) = at_place place (limited v)
written place None = Err (Range place)

-- what follows a value
abbrev pub with_value : Valued → (ℤ → Valued) → Valued
with_value (Err fault) next = Err fault
with_value (Ok v) next = next v

-- the inside of what opens a level
abbrev pub a_level_in : (ℕ → Valued) → ℕ → Valued
a_level_in inner depth = cond (nat_lt depth MAX_FORMULA_DEPTH) (inner (depth + 1)) (Err TooDeep)

-- a node, by what its parts give; the left operand comes first, and both sides of each operator are evaluated
abbrev pub named_step : Ask → Expr-F (ℕ → Valued) → ℕ → Valued
named_step ask (Expr-F.Number place units) depth = written place units
named_step ask (Expr-F.Named place name) depth = with_value (ask name depth) (λ v. at_place place (limited v))
named_step ask (Expr-F.Group inner) depth = a_level_in inner depth
named_step ask (Expr-F.Call place f inner) depth = with_value (a_level_in inner depth) (λ v. at_place place (function_value f v))
named_step ask (Expr-F.Signed s inner) depth = with_value (inner depth) (λ v. Ok (with_sign_of s v))
named_step ask (Expr-F.Binary place o left right) depth =
    with_value (left depth) (λ a. with_value (right depth) (λ b. at_place place (operation o a b)))

-- the value of a formula that begins at a depth
abbrev pub value_by_name : Ask → Expr → ℕ → Valued
value_by_name ask tree = fold-Expr (ℕ → Valued) (named_step ask) tree

-- the value of a formula's text that begins at a depth
abbrev pub read_then : Result Expr ℕ → (Expr → Valued) → Valued
read_then (Ok tree) value = value tree
read_then (Err place) value = Err (Syntax place)

abbrev pub text_value : Ask → List ℕ → ℕ → Valued
text_value ask text depth = read_then (parsed text) (λ tree. value_by_name ask tree depth)
