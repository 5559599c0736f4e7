use Rattle.std.proofs.Common.{◌≡◌, ◌+◌, ◌-◌, ◌*◌, ◌≤◌, ℕ, All, drop}
use Rattle.box_geo.specs.declared.limits.TheConstants.{MAX_FORMULA_DEPTH}
use Rattle.formula.specs.Asked.{asked}
use Rattle.variable_values.specs.Known.{numbers_of}
use Rattle.variable_values.specs.Steps.{behind_values}
use Rattle.variable_values.specs.Values.{operand_value, within}
use Rattle.variable_values.proofs.values.+values.Given as goal

abbrev pub decreases-entered : goal.decreases-entered
decreases-entered l = 5 * (MAX_FORMULA_DEPTH + 1 - l.depth)

abbrev pub decreases-held_value : goal.decreases-held_value
decreases-held_value l = 5 * (MAX_FORMULA_DEPTH + 1 - l.depth) + 1

abbrev pub decreases-operand_value : goal.decreases-operand_value
decreases-operand_value l = 5 * (MAX_FORMULA_DEPTH + 1 - l.operand.now.depth) + 2

abbrev pub decreases-ask_operands : goal.decreases-ask_operands
decreases-ask_operands l = 5 * (MAX_FORMULA_DEPTH + 1 - l.depth) + 3

abbrev pub decreases-formula_number : goal.decreases-formula_number
decreases-formula_number l = 5 * (MAX_FORMULA_DEPTH + 1 - l.depth) + 4

abbrev pub invariant-ask_operands-loop-operand : goal.invariant-ask_operands-loop-operand
invariant-ask_operands-loop-operand l =
    ((levels : ℕ) → MAX_FORMULA_DEPTH ≤ levels + l.depth
    → let ask = operand_value (within levels l.vars) l.vars (numbers_of l.known) in
    behind_values l.values.items (asked ask (drop l.operand-index l.operand-items)) ≡ asked ask l.operand-items)
    × All (λ o. l.depth ≤ o.depth) l.operand-items
