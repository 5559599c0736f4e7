-- The refusal of a fault is the one that is meant.
use Rattle.std.proofs.Common.{◌≡◌, false, ℕ, ℤ, Result, Ok, Err, refl, ap}
use Rattle.fx_num.specs.declared.faults.FormulaFault.{FormulaFault}
use Rattle.fx_num.specs.declared.faults.FormulaFault.TheVariants as formula
use Rattle.fx_num.specs.declared.faults.VarFault.{VarFault}
use Rattle.fx_num.specs.declared.faults.VarFault.TheVariants as fault
use Rattle.meaning.specs.Answers.{Gets}
use Rattle.meaning.specs.Variables.{fault_refusal, valued}
use Rattle.variable_values.specs.Values.{Answers}

pub fault_gets : (why : VarFault) (meant : Result ℤ VarFault) → Answers {X = ℤ} (Err why) meant → Gets (valued meant) (Err (fault_refusal why))
fault_gets (fault.UnknownVariable name) meant h = (ap valued h, refl)
fault_gets (fault.Mixed name) meant h = (ap valued h, refl)
fault_gets (fault.NotText name) meant h = (ap valued h, refl)
fault_gets (fault.Formula (formula.Syntax place)) meant h = (ap valued h, refl)
fault_gets (fault.Formula (formula.Unknown name)) meant h = (ap valued h, refl)
fault_gets (fault.Formula (formula.DivideByZero place)) meant h = (ap valued h, refl)
fault_gets (fault.Formula (formula.Range place)) meant h = (ap valued h, refl)
fault_gets (fault.Formula (formula.NotNumber name)) meant h = (ap valued h, refl)
fault_gets (fault.Formula formula.TooDeep) meant h = (ap valued h, refl)
fault_gets (fault.Formula formula.NoMemory) meant h = tt
fault_gets fault.NoMemory meant h = tt
