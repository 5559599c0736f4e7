use Rattle.std.proofs.Common.{◌≡◌, ◌∙◌, ◌+◌, ◌++◌, ◌∷◌, ◌<◌, ◌≤◌, [], ℤ, List, ap, drop, sym, arith, rules}
use Rattle.std.proofs.lemmas.List.{drop_more}
use Rattle.box_geo.specs.declared.limits.TheConstants.{MAX_FORMULA_DEPTH}
use Rattle.formula.specs.declared.named.NamedOperand.{NamedOperand}
use Rattle.formula.specs.Asked.{Asked, asked, valued_by}
use Rattle.formula.specs.ByName.{Ask}
use Rattle.formula.specs.Operands.{operands}
use Rattle.formula.specs.Value.{value_of}
use Rattle.variable_values.specs.Known.{numbers_of}
use Rattle.variable_values.specs.Steps.{as_operand, behind_values}
use Rattle.variable_values.specs.Values.{operand_value, within}
use Rattle.variable_values.proofs.AskingLemmas.{one_fault, one_more}
use Rattle.variable_values.proofs.FormulaLemmas.{text_gives}
use Rattle.variable_values.proofs.LevelLemmas.{level_left}
use Rattle.variable_values.proofs.values.+values.Goals as goal

pub entered-returns-clause-is : goal.entered-returns-clause-is
entered-returns-clause-is t c = λ levels enough.
    let below : c.args.depth < MAX_FORMULA_DEPTH = omega arith in
    level_left c.formula_number.result c.args.vars.now (numbers_of c.args.known.now) c.args.formula.now c.args.depth levels below enough c.formula_number.ensures.is

pub formula_number-returns-clause-is : goal.formula_number-returns-clause-is
formula_number-returns-clause-is t c = λ levels enough.
    let had : Asked = record { values = c.in_ok-values.field-0.values.items; fault = c.in_ok-values.field-0.fault } in
    let is : c.valued_by.result ≡ valued_by (value_of c.in_ok-tree.tree had.values c.args.depth) had.fault = search rules in
    text_gives (operand_value (within levels c.args.vars.now) c.args.vars.now (numbers_of c.args.known.now)) c.args.text.now c.in_ok-tree.tree c.args.depth
    had c.valued_by.result c.in_ok-tree.ensures.tree (c.in_ok-values.ensures levels enough) is

pub ask_operands-returns-in-Err : goal.ask_operands-returns-in-Err
ask_operands-returns-in-Err t c = λ levels enough.
    let l = c.loop-operand in
    let xs = c.as_slice-operand-items.result.now in
    let o = c.operand-item.result in
    let ask : Ask = operand_value (within levels c.args.vars.now) c.args.vars.now (numbers_of c.args.known.now) in
    let here : drop l.operand-index xs ≡ o ∷ drop (l.operand-index + 1) xs =
    drop_more xs l.operand-index o (omega arith) ∙ ap (λ (y : NamedOperand). y ∷ drop (l.operand-index + 1) xs) (sym c.operand-item.is) in
    let deep : c.args.depth ≤ o.depth = omega (arith, l.invariant.1 l.operand-index o (omega arith), ap (λ (y : NamedOperand). y.depth) c.operand-item.is) in
    let given = c.in_ok-value.ensures (as_operand (ask o.name o.depth)) (c.operand_value.ensures levels (omega (arith, enough, deep))) in
    let all : xs ≡ operands c.args.tree.now c.args.depth = search rules in
    ap (asked ask) (sym all)
    ∙ one_fault ask (drop l.operand-index xs) (drop (l.operand-index + 1) xs) o l.values.items c.in-Err.why (asked ask xs) here (sym given ∙ c.in-Err.is) (l.invariant.0 levels enough)

pub ask_operands-loop-operand-preserved : goal.ask_operands-loop-operand-preserved
ask_operands-loop-operand-preserved t c =
    let l = c.loop-operand in
    let xs = c.as_slice-operand-items.result.now in
    let o = c.operand-item.result in
    let here : drop l.operand-index xs ≡ o ∷ drop (l.operand-index + 1) xs =
    drop_more xs l.operand-index o (omega arith) ∙ ap (λ (y : NamedOperand). y ∷ drop (l.operand-index + 1) xs) (sym c.operand-item.is) in
    let deep : c.args.depth ≤ o.depth = omega (arith, l.invariant.1 l.operand-index o (omega arith), ap (λ (y : NamedOperand). y.depth) c.operand-item.is) in
    let pushed : c.push.new.self.items ≡ l.values.items ++ c.in-Ok.value ∷ [] = search rules in (
      λ levels enough.
          let ask : Ask = operand_value (within levels c.args.vars.now) c.args.vars.now (numbers_of c.args.known.now) in
          let given = c.in_ok-value.ensures (as_operand (ask o.name o.depth)) (c.operand_value.ensures levels (omega (arith, enough, deep))) in
          ap (λ (values : List ℤ). behind_values values (asked ask (drop (l.operand-index + 1) xs))) pushed
          ∙ one_more ask (drop l.operand-index xs) (drop (l.operand-index + 1) xs) o l.values.items c.in-Ok.value (asked ask xs) here (sym given ∙ c.in-Ok.is) (l.invariant.0 levels enough),
      l.invariant.1,
    )
