-- The values of variables and formulas, and their texts.
use Rattle.std.specs.Prelude.{◌≡◌, ◌^◌, ◌||◌, Bool, cond, nat_eq, ℕ, zero, suc, ℤ, pos, ◌*ℤ◌, Option, Some, None, Result, Ok, Err, List, [], drop, codes}
use Rattle.std.specs.List.{starts_with}
use Rattle.std.specs.Str.{bytes_eq}
use Rattle.box_geo.specs.declared.limits.TheConstants.{MAX_FORMULA_DEPTH}
use Rattle.fx_num.specs.Decimal.{read_number}
use Rattle.fx_num.specs.Numbers.{value_under}
use Rattle.fx_num.specs.Print.{value_text}
use Rattle.fx_num.specs.declared.decimal.NumError.{NumError}
use Rattle.fx_num.specs.declared.decimal.NumError.TheVariants as number_error
use Rattle.fx_num.specs.declared.faults.FormulaFault.{FormulaFault}
use Rattle.fx_num.specs.declared.faults.FormulaFault.TheVariants as fault
use Rattle.fx_num.specs.declared.faults.VarFault.{VarFault}
use Rattle.fx_num.specs.declared.faults.VarFault.TheVariants as var_fault
use Rattle.fx_num.specs.declared.numbers.Number.{Number}
use Rattle.formula.specs.ByName.{Ask, Valued, a_level_in, text_value}
use Rattle.var_table.specs.Variables.{Named, Held, AsText, AsFormula, AsAtomFormula, held_in}

-- the numbers by keyword that formulas know: those of the state, and those of one atom, of which there are none where no atom is asked about
pub record KnownNumbers : Type 0 where
  pub state : List Number
  pub atom : List Number

-- the numbers of the state alone: what the formula of an equal variable knows, whoever asks for its value
abbrev pub of_state : List Number → KnownNumbers
of_state state = record { state = state; atom = [] }

-- the number under a keyword
abbrev pub or_else : Option ℤ → Option ℤ → Option ℤ
or_else (Some v) other = Some v
or_else None other = other

abbrev pub number_under : KnownNumbers → List ℕ → Option ℤ
number_under known keyword = or_else (value_under known.state keyword) (value_under known.atom keyword)

-- these keywords stand for whole numbers, all others for numbers in units
abbrev pub is_whole : List ℕ → Bool
is_whole keyword = bytes_eq keyword (codes "step") || bytes_eq keyword (codes "atoms") || bytes_eq keyword (codes "id") || bytes_eq keyword (codes "type")

abbrev pub in_units : List ℕ → ℤ → ℤ
in_units keyword v = cond (is_whole keyword) (v *ℤ pos (2 ^ 24)) v

-- the value of a keyword or of `c_ID`, in units
abbrev pub known_value : List ℕ → Option ℤ → Valued
known_value keyword (Some v) = Ok (in_units keyword v)
known_value keyword None = Err (fault.Unknown keyword)

-- the value of a variable whose text is a number; the place of one that is out of range is 0
abbrev pub number_value : List ℕ → Result ℤ NumError → Valued
number_value name (Ok v) = Ok v
number_value name (Err number_error.OutOfRange) = Err (fault.Range 0)
number_value name (Err number_error.NotNumber) = Err (fault.NotNumber name)
number_value name (Err number_error.TooManyDigits) = Err (fault.NotNumber name)

-- what a formula gives by what it knows, where so many levels are open
abbrev pub Formulas : Type 0
Formulas = KnownNumbers → List ℕ → ℕ → Valued

-- the value of what a variable of this name holds: to enter a formula takes a level
abbrev pub value_held : Formulas → KnownNumbers → List ℕ → Held → ℕ → Valued
value_held formulas known name (AsText text) depth = number_value name (read_number text)
value_held formulas known name (AsFormula formula) depth = a_level_in (formulas (of_state known.state) formula) depth
value_held formulas known name (AsAtomFormula formula) depth = a_level_in (formulas known formula) depth

-- an operand: `v_` before the name of a variable, a keyword or `c_ID`
abbrev pub is_variable : List ℕ → Bool
is_variable operand = starts_with nat_eq operand (codes "v_")

abbrev pub variable_value : Formulas → KnownNumbers → List ℕ → Option Held → ℕ → Valued
variable_value formulas known operand (Some held) depth = value_held formulas known (drop 2 operand) held depth
variable_value formulas known operand None depth = Err (fault.Unknown operand)

abbrev pub operand_value : Formulas → List Named → KnownNumbers → Ask
operand_value formulas vars known operand depth =
    cond (is_variable operand) (variable_value formulas known operand (held_in vars (drop 2 operand)) depth) (known_value operand (number_under known operand))

-- the value of a formula in which the formulas of variables give this
abbrev pub formula_by : Formulas → List Named → Formulas
formula_by inner vars known text depth = text_value (operand_value inner vars known) text depth

-- the value of a formula of a variable where at most so many levels are left. As each takes one, this ends
abbrev pub within : ℕ → List Named → Formulas
within zero vars known text depth = Err fault.TooDeep
within (suc levels) vars known text depth = formula_by (within levels vars) vars known text depth

-- what the formulas of variables give: no more are entered, one inside another, than there may be levels
abbrev pub entered : List Named → Formulas
entered vars = within MAX_FORMULA_DEPTH vars

-- the fault of a variable
abbrev pub in_formula : {X : Type 0} → Result X FormulaFault → Result X VarFault
in_formula (Ok x) = Ok x
in_formula (Err why) = Err (var_fault.Formula why)

-- the value of a formula where no atom is asked about, in units
unfoldable pub formula_value : List Named → List Number → List ℕ → ℕ → Result ℤ VarFault
formula_value vars state text depth = in_formula (formula_by (entered vars) vars (of_state state) text depth)

-- the value of the variable of this name, asked for at a depth, in units
abbrev pub held_value : List Named → KnownNumbers → List ℕ → Option Held → ℕ → Result ℤ VarFault
held_value vars known name (Some held) depth = in_formula (value_held (entered vars) known name held depth)
held_value vars known name None depth = Err (var_fault.UnknownVariable name)

unfoldable pub value_of : List Named → KnownNumbers → List ℕ → ℕ → Result ℤ VarFault
value_of vars known name depth = held_value vars known name (held_in vars name) depth

-- the text of a value
abbrev pub shown : Result ℤ VarFault → Result (List ℕ) VarFault
shown (Ok v) = Ok (value_text v)
shown (Err why) = Err why

-- the text of a formula's value
unfoldable pub formula_text : List Named → List Number → List ℕ → Result (List ℕ) VarFault
formula_text vars state text = shown (formula_value vars state text 0)

-- the text of the variable of this name: its own, or that of its value; an atom variable has none
abbrev pub held_text : List Named → List Number → List ℕ → Option Held → Result (List ℕ) VarFault
held_text vars state name (Some (AsText text)) = Ok text
held_text vars state name (Some (AsFormula formula)) = shown (value_of vars (of_state state) name 0)
held_text vars state name (Some (AsAtomFormula formula)) = Err (var_fault.NotText name)
held_text vars state name None = Err (var_fault.UnknownVariable name)

unfoldable pub text_of : List Named → List Number → List ℕ → Result (List ℕ) VarFault
text_of vars state name = held_text vars state name (held_in vars name)

-- an answer is the one that is meant; want of memory may come wherever
abbrev pub Answers : {X : Type 0} → Result X VarFault → Result X VarFault → Type 0
Answers (Ok x) meant = meant ≡ Ok x
Answers (Err var_fault.NoMemory) meant = Unit {0}
Answers (Err why) meant = meant ≡ Err why

-- want of memory is a fault of its own, and none of a formula
abbrev pub IsOutright : VarFault → Type 0
IsOutright (var_fault.Formula fault.NoMemory) = ⊥
IsOutright why = Unit {0}
