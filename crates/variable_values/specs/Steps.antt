-- What the steps of an evaluation answer.
use Rattle.std.specs.Prelude.{◌≡◌, ℤ, Ok, Err, List, ◌++◌}
use Rattle.fx_num.specs.declared.faults.FormulaFault.TheVariants.{NoMemory}
use Rattle.formula.specs.Asked.{Asked, kept}
use Rattle.formula.specs.ByName.{Valued}

-- an answer is the one that is meant; want of memory may come wherever
abbrev pub Gives : Valued → Valued → Type 0
Gives (Ok v) meant = meant ≡ Ok v
Gives (Err NoMemory) meant = Unit {0}
Gives (Err why) meant = meant ≡ Err why

-- a value as an operand
abbrev pub as_operand : Valued → Valued
as_operand (Ok v) = Ok (kept v)
as_operand (Err why) = Err why

-- what operands have, behind those that have these values
abbrev pub behind_values : List ℤ → Asked → Asked
behind_values values rest = record { values = values ++ rest.values; fault = rest.fault }
