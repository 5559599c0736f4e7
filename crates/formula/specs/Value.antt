-- The value of a formula: by its tree, with the values of its operands from left to right and the number of levels that are open; or its first fault.
use Rattle.std.specs.Prelude.{◌≡◌, ◌+◌, cond, nat_lt, ℕ, ℤ, Option, Some, None, Result, Ok, Err, List, [], ◌∷◌}
use denote.Bor.{Bor}
use Rattle.box_geo.specs.declared.limits.TheConstants.{MAX_FORMULA_DEPTH}
use Rattle.formula.specs.declared.tree.Operator.{Operator}
use Rattle.formula.specs.declared.tree.Expr.{Expr}
use Rattle.formula.specs.declared.tree.Expr.TheOpen.{Expr-F}
use Rattle.formula.specs.declared.tree.Expr.TheFolds.{fold-Expr}
use Rattle.formula.specs.declared.arithmetic.Failure.{Failure}
use Rattle.formula.specs.declared.arithmetic.Failure.TheVariants as failure
use Rattle.formula.specs.declared.value.EvalFault.{EvalFault}
use Rattle.formula.specs.declared.value.EvalFault.TheVariants.{DivideByZero, Range, TooDeep, Operand}
use Rattle.formula.specs.Arithmetic.{limited, operation, with_sign_of, function_value}

-- a value with the operands that are left, or a fault
abbrev pub Outcome : Type 0
Outcome = Result (ℤ × List ℤ) EvalFault

-- what a formula gives, by the number of open levels and the operands that are left
abbrev pub Meaning : Type 0
Meaning = ℕ → List ℤ → Outcome

-- the fault of an operation at this place
abbrev pub fault_at : ℕ → Failure → EvalFault
fault_at place failure.DivideByZero = DivideByZero place
fault_at place failure.OutOfRange = Range place

-- the value of what stands at a place
abbrev pub value_at : ℕ → List ℤ → Result ℤ Failure → Outcome
value_at place values (Ok v) = Ok (v, values)
value_at place values (Err why) = Err (fault_at place why)

-- a number that is written
abbrev pub literal_value : ℕ → Option ℤ → List ℤ → Outcome
literal_value place (Some v) values = value_at place values (limited v)
literal_value place None values = Err (Range place)

-- the next operand
abbrev pub operand_value : ℕ → List ℤ → Outcome
operand_value place [] = Err Operand
operand_value place (v ∷ values) = value_at place values (limited v)

-- the inside of parentheses, a level deeper
abbrev pub inside : Meaning → Meaning
inside inner depth values = cond (nat_lt depth MAX_FORMULA_DEPTH) (inner (depth + 1) values) (Err TooDeep)

-- what follows a value
abbrev pub and_then : Outcome → (ℤ → List ℤ → Outcome) → Outcome
and_then (Err fault) next = Err fault
and_then (Ok r) next = next r.0 r.1

-- an operator between a value and what its right side gives
abbrev pub operated : ℕ → Operator → ℤ → Outcome → Outcome
operated place o a right = and_then right (λ b rest. value_at place rest (operation o a b))

-- a node, by what its parts give; the left operand comes first
abbrev pub value_step : Expr-F Meaning → Meaning
value_step (Expr-F.Number place units) depth values = literal_value place units values
value_step (Expr-F.Named place name) depth values = operand_value place values
value_step (Expr-F.Group inner) depth values = inside inner depth values
value_step (Expr-F.Call place f inner) depth values = and_then (inside inner depth values) (λ v rest. value_at place rest (function_value f v))
value_step (Expr-F.Signed s inner) depth values = and_then (inner depth values) (λ v rest. Ok (with_sign_of s v, rest))
value_step (Expr-F.Binary place o left right) depth values =
    and_then (left depth values) (λ a rest. operated place o a (right depth rest))

-- the value of a formula, with the operands that are left
abbrev pub value : Expr → Meaning
value tree = fold-Expr Meaning value_step tree

-- the value alone
abbrev pub value_alone : Outcome → Result ℤ EvalFault
value_alone (Ok r) = Ok r.0
value_alone (Err fault) = Err fault

-- the value of a whole formula that begins at a depth
abbrev pub value_of : Expr → List ℤ → ℕ → Result ℤ EvalFault
value_of tree values depth = value_alone (value tree depth values)

-- what a call answers is what is meant
abbrev pub HasValue : Result (ℤ × Bor (List ℤ)) EvalFault → Outcome → Type 0
HasValue (Ok r) meant = meant ≡ Ok (r.0, r.1.now)
HasValue (Err fault) meant = meant ≡ Err fault
