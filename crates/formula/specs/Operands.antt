-- The operands of a formula that have names, from left to right.
use Rattle.std.specs.Prelude.{◌+◌, ℕ, List, [], ◌∷◌, ◌++◌}
use Rattle.formula.specs.declared.tree.Expr.{Expr}
use Rattle.formula.specs.declared.tree.Expr.TheOpen.{Expr-F}
use Rattle.formula.specs.declared.tree.Expr.TheFolds.{fold-Expr}
use Rattle.formula.specs.declared.named.NamedOperand.{NamedOperand}

abbrev pub operands_step : Expr-F (ℕ → List NamedOperand) → ℕ → List NamedOperand
operands_step (Expr-F.Number place units) depth = []
operands_step (Expr-F.Named place name) depth = record { name = name; depth = depth } ∷ []
operands_step (Expr-F.Group inner) depth = inner (depth + 1)
operands_step (Expr-F.Call place f inner) depth = inner (depth + 1)
operands_step (Expr-F.Signed s inner) depth = inner depth
operands_step (Expr-F.Binary place o left right) depth = left depth ++ right depth

-- each with the number of levels that are open where it stands, where the formula begins at a depth
abbrev pub operands : Expr → ℕ → List NamedOperand
operands tree = fold-Expr (ℕ → List NamedOperand) operands_step tree
