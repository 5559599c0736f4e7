-- Tables of coefficients by type: the coefficients of each of 64 types, where they are set.
use Rattle.std.specs.Prelude.{◌-◌, ℕ, ℤ, Option, Some, None, List, slice_index_or, slice_set}
use Rattle.bonded.specs.Lengths.{IsStiffness, IsRestLength}

-- what stands at a type
abbrev pub at_kind : {X : Type 0} → List (Option X) → ℕ → Option X
at_kind places kind = slice_index_or places (kind - 1) None

-- the table with this at a type
abbrev pub with_kind : {X : Type 0} → List (Option X) → ℕ → X → List (Option X)
with_kind places kind x = slice_set places (kind - 1) (Some x)

-- the numbers of a bond type
abbrev pub AreBondNumbers : ℤ × ℤ → Type 0
AreBondNumbers n = IsStiffness n.0 × IsRestLength n.1
