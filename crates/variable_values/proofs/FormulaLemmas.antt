-- The value of a formula's text by the values of its operands.
use Rattle.std.proofs.Common.{◌≡◌, ◌∙◌, ℕ, List, Result, Ok, Err, ap, sym}
use Rattle.fx_num.specs.declared.faults.FormulaFault.TheVariants.{DivideByZero, NoMemory, NotNumber, Range, Syntax, TooDeep, Unknown}
use Rattle.formula.specs.declared.tree.Expr.{Expr}
use Rattle.formula.specs.Asked.{Asked, asked, valued_by}
use Rattle.formula.specs.ByName.{Ask, Valued, read_then, text_value, value_by_name}
use Rattle.formula.specs.Operands.{operands}
use Rattle.formula.specs.Reading.{parsed}
use Rattle.formula.specs.Value.{value_of}
use Rattle.formula.proofs.AskLemmas.{value_by_list}
use Rattle.variable_values.specs.Steps.{Gives}

pub gives_same : (result meant : Valued) → meant ≡ result → Gives result meant
gives_same (Ok v) meant is = is
gives_same (Err (Syntax place)) meant is = is
gives_same (Err (Unknown name)) meant is = is
gives_same (Err (NotNumber name)) meant is = is
gives_same (Err (DivideByZero place)) meant is = is
gives_same (Err (Range place)) meant is = is
gives_same (Err TooDeep) meant is = is
gives_same (Err NoMemory) meant is = tt

-- a text that is read has the value that the list of its operands' values gives
pub text_gives : (ask : Ask) (text : List ℕ) (tree : Expr) (depth : ℕ) (a : Asked) (result : Valued)
    → parsed text ≡ Ok tree → asked ask (operands tree depth) ≡ a → result ≡ valued_by (value_of tree a.values depth) a.fault
    → Gives result (text_value ask text depth)
text_gives ask text tree depth a result read has is =
    let by_text : text_value ask text depth ≡ value_by_name ask tree depth = ap (λ (r : Result Expr ℕ). read_then r (λ t. value_by_name ask t depth)) read in
    let by_list : value_by_name ask tree depth ≡ valued_by (value_of tree a.values depth) a.fault =
    sym (value_by_list ask tree depth) ∙ ap (λ (b : Asked). valued_by (value_of tree b.values depth) b.fault) has in
    gives_same result (text_value ask text depth) (by_text ∙ by_list ∙ sym is)
