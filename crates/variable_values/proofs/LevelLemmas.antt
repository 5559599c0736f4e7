-- Levels that are left.
use Rattle.std.proofs.Common.{◌≡◌, ◌+◌, ◌<◌, ◌≤◌, ℕ, zero, suc, List, true, nat_lt, arith}
use Rattle.std.proofs.lemmas.Bool.Decides.{nat_tests}
use Rattle.box_geo.specs.declared.limits.TheConstants.{MAX_FORMULA_DEPTH}
use Rattle.formula.specs.ByName.{Valued, a_level_in}
use Rattle.var_table.specs.Variables.{Named}
use Rattle.variable_values.specs.Steps.{Gives}
use Rattle.variable_values.specs.Values.{KnownNumbers, formula_by, within}

-- where a level is left, what a formula gives with however many more levels is what it gives one level in
pub level_left : (result : Valued) (vars : List Named) (known : KnownNumbers) (text : List ℕ) (depth levels : ℕ)
    → depth < MAX_FORMULA_DEPTH → MAX_FORMULA_DEPTH ≤ levels + depth
    → ((more : ℕ) → MAX_FORMULA_DEPTH ≤ more + (depth + 1) → Gives result (formula_by (within more vars) vars known text (depth + 1)))
    → Gives result (a_level_in (within levels vars known text) depth)
level_left result vars known text depth zero below enough gives = absurd (omega (arith, below, enough))
level_left result vars known text depth (suc more) below enough gives =
    let inside : nat_lt depth MAX_FORMULA_DEPTH ≡ true = grind (arith, nat_tests) in
    rw inside (gives more (omega (arith, enough)))
