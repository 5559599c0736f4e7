-- The grammar of formulas: how operators hold their operands, and which text is which tree.
use Rattle.std.specs.Prelude.{◌≡◌, ◌&&◌, nat_le, nat_lt, Bool, true, ℕ, List}
use Rattle.formula.specs.declared.tree.Expr.{Expr}
use Rattle.formula.specs.declared.tree.Expr.TheOpen.{Expr-F}
use Rattle.formula.specs.declared.tree.Expr.TheFolds.{fold-Expr}
use Rattle.formula.specs.Reading.{level_of, sign_level}
use Rattle.formula.specs.Spelling.{Spells, spelling}

-- how tightly a tree binds, and whether all in it is grouped so
pub record Grouping : Type 0 where
  pub level : ℕ
  pub holds : Bool

-- operands, parentheses and functions bind most
abbrev pub operand_level : ℕ
operand_level = 9

-- a left operand binds at least as tightly as its operator, a right one more tightly, and what a sign stands before at least as a sign
abbrev pub grouping_step : Expr-F Grouping → Grouping
grouping_step (Expr-F.Number place units) = record { level = operand_level; holds = true }
grouping_step (Expr-F.Named place name) = record { level = operand_level; holds = true }
grouping_step (Expr-F.Group inner) = record { level = operand_level; holds = inner.holds }
grouping_step (Expr-F.Call place f inner) = record { level = operand_level; holds = inner.holds }
grouping_step (Expr-F.Signed s inner) = record { level = sign_level; holds = inner.holds && nat_le sign_level inner.level }
grouping_step (Expr-F.Binary place o left right) =
    record { level = level_of o; holds = left.holds && nat_le (level_of o) left.level && (right.holds && nat_lt (level_of o) right.level) }

abbrev pub grouping : Expr → Grouping
grouping tree = fold-Expr Grouping grouping_step tree

-- every operator of a tree holds operands that bind tightly enough
abbrev pub IsGrouped : Expr → Type 0
IsGrouped tree = (grouping tree).holds ≡ true

-- The text is a formula and this is its tree: the lexemes of the text are those of the tree from left to right, each at the place that the tree
-- keeps, and its operators hold operands that bind tightly enough. Blanks stand between lexemes alone, since no lexeme has one. An operator of two
-- bytes is one lexeme, since its second byte alone is none.
pub record IsFormula (text : List ℕ) (tree : Expr) : Type 0 where
  pub spelled : Spells text (spelling tree)
  pub grouped : IsGrouped tree
