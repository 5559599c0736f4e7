-- A table of what names and formulas stand for: a text, or why there is none.
use Rattle.std.specs.Prelude.{◌≡◌, Bool, true, false, ℕ, Result, Ok, Err, List}
use Rattle.fx_num.specs.declared.faults.FormulaFault.{FormulaFault}
use Rattle.fx_num.specs.declared.faults.FormulaFault.TheVariants as formula
use Rattle.fx_num.specs.declared.faults.VarFault.{VarFault}
use Rattle.fx_num.specs.declared.faults.VarFault.TheVariants as variable

pub record Table : Type 0 where
  pub names : List ℕ → Result (List ℕ) VarFault
  pub formulas : List ℕ → Result (List ℕ) VarFault

abbrev pub is_formula_memory : FormulaFault → Bool
is_formula_memory formula.NoMemory = true
is_formula_memory _ = false

-- want of memory, also that of a formula
abbrev pub is_no_memory : VarFault → Bool
is_no_memory variable.NoMemory = true
is_no_memory (variable.Formula fault) = is_formula_memory fault
is_no_memory _ = false

-- an answer is the one of the table; want of memory may come wherever
abbrev pub Answers : Result (List ℕ) VarFault → Result (List ℕ) VarFault → Type 0
Answers (Ok text) meant = meant ≡ Ok text
Answers (Err fault) meant = is_no_memory fault ≡ false → meant ≡ Err fault
