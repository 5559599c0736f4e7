-- With which texts formulas begin.
use Rattle.std.specs.Prelude.{◌≡◌, ℕ, Result, Ok, List, [], ◌++◌}
use Rattle.formula.specs.declared.tree.Expr.{Expr}
use Rattle.formula.specs.declared.state.State.TheVariants.{Needs}
use Rattle.formula.specs.Reading.{run}

-- what a text reads as, however long it is
abbrev pub reading : List ℕ → Result Expr ℕ
reading text = run 0 text (Needs [])

-- some formula begins with the text, however long it is
pub record Begins (text : List ℕ) : Type 0 where
  pub rest : List ℕ
  pub tree : Expr
  pub is_read : reading (text ++ rest) ≡ Ok tree
