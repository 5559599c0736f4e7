-- Operands that are asked for one after another.
use Rattle.std.proofs.Common.{◌≡◌, ◌∙◌, ◌++◌, ◌∷◌, [], ℤ, List, Some, Ok, Err, ap, sym, append_assoc, append-nil}
use Rattle.fx_num.specs.declared.faults.FormulaFault.{FormulaFault}
use Rattle.formula.specs.declared.named.NamedOperand.{NamedOperand}
use Rattle.formula.specs.Asked.{Asked, answered, asked, kept}
use Rattle.formula.specs.ByName.{Ask, Valued}
use Rattle.variable_values.specs.Steps.{as_operand, behind_values}

answered_value : (r : Valued) (v : ℤ) (rest : Asked) → as_operand r ≡ Ok v → answered r rest ≡ record { values = v ∷ rest.values; fault = rest.fault }
answered_value (Ok w) v rest e =
    let same : kept w ≡ v = cc in
    ap (λ (x : ℤ). record { values = x ∷ rest.values; fault = rest.fault }) same
answered_value (Err why) v rest e = absurd cc

answered_fault : (r : Valued) (why : FormulaFault) (rest : Asked) → as_operand r ≡ Err why → answered r rest ≡ record { values = []; fault = Some why }
answered_fault (Ok w) why rest e = absurd cc
answered_fault (Err other) why rest e =
    let same : other ≡ why = cc in
    ap (λ (x : FormulaFault). record { values = []; fault = Some x }) same

-- an operand that has a value joins those before it
pub one_more : (ask : Ask) (left behind : List NamedOperand) (o : NamedOperand) (values : List ℤ) (v : ℤ) (whole : Asked)
    → left ≡ o ∷ behind → as_operand (ask o.name o.depth) ≡ Ok v → behind_values values (asked ask left) ≡ whole
    → behind_values (values ++ v ∷ []) (asked ask behind) ≡ whole
one_more ask left behind o values v whole is value all =
    let rest : Asked = asked ask behind in
    let here : asked ask left ≡ record { values = v ∷ rest.values; fault = rest.fault } = ap (asked ask) is ∙ answered_value (ask o.name o.depth) v rest value in
    let joined : (values ++ v ∷ []) ++ rest.values ≡ values ++ (v ∷ rest.values) = append_assoc values (v ∷ []) rest.values in
    ap (λ (xs : List ℤ). record { values = xs; fault = rest.fault }) joined ∙ ap (behind_values values) (sym here) ∙ all

-- an operand that has a fault ends them
pub one_fault : (ask : Ask) (left behind : List NamedOperand) (o : NamedOperand) (values : List ℤ) (why : FormulaFault) (whole : Asked)
    → left ≡ o ∷ behind → as_operand (ask o.name o.depth) ≡ Err why → behind_values values (asked ask left) ≡ whole
    → whole ≡ record { values = values; fault = Some why }
one_fault ask left behind o values why whole is value all =
    let rest : Asked = asked ask behind in
    let here : asked ask left ≡ record { values = []; fault = Some why } = ap (asked ask) is ∙ answered_fault (ask o.name o.depth) why rest value in
    sym all ∙ ap (behind_values values) here ∙ ap (λ (xs : List ℤ). record { values = xs; fault = Some why }) (append-nil values)
