-- The operands of a formula as a list of values, where each is asked for by its name.
use Rattle.std.specs.Prelude.{◌+◌, ◌^◌, cond, ℤ, pos, Option, Some, None, Result, Ok, Err, List, [], ◌∷◌}
use Rattle.fx_num.specs.declared.faults.FormulaFault.{FormulaFault}
use Rattle.fx_num.specs.declared.faults.FormulaFault.TheVariants as fault
use Rattle.formula.specs.declared.named.NamedOperand.{NamedOperand}
use Rattle.formula.specs.declared.value.EvalFault.{EvalFault}
use Rattle.formula.specs.declared.value.EvalFault.TheVariants.{DivideByZero, Range, TooDeep, Operand}
use Rattle.formula.specs.Arithmetic.{is_value}
use Rattle.formula.specs.ByName.{Ask, Valued}

-- what operands have from left to right, up to the first that has a fault, and that fault
pub record Asked : Type 0 where
  pub values : List ℤ
  pub fault : Option FormulaFault

-- a value in range is itself, and one out of range stays out of range
abbrev pub kept : ℤ → ℤ
kept v = cond (is_value v) v (pos (2 ^ 62 + 1))

abbrev pub answered : Valued → Asked → Asked
answered (Ok v) rest = record { values = kept v ∷ rest.values; fault = rest.fault }
answered (Err why) rest = record { values = []; fault = Some why }

abbrev pub asked : Ask → List NamedOperand → Asked
asked ask [] = record { values = []; fault = None }
asked ask (o ∷ operands) = answered (ask o.name o.depth) (asked ask operands)

-- the fault of a formula: an operand without a value has the one that it was asked for with
abbrev pub fault_by : EvalFault → Option FormulaFault → FormulaFault
fault_by (DivideByZero place) asked = fault.DivideByZero place
fault_by (Range place) asked = fault.Range place
fault_by TooDeep asked = fault.TooDeep
fault_by Operand (Some why) = why
fault_by Operand None = fault.NoMemory

abbrev pub valued_by : Result ℤ EvalFault → Option FormulaFault → Valued
valued_by (Ok v) asked = Ok v
valued_by (Err why) asked = Err (fault_by why asked)
