use Rattle.std.proofs.Common.{◌≡◌, drop}
use Rattle.var_table.specs.Variables.{is_there}
use Rattle.var_table.proofs.search.is_there.Given as goal

abbrev pub invariant-loop-variable : goal.invariant-loop-variable
invariant-loop-variable l = is_there (drop l.variable-index l.items) l.name ≡ is_there l.items l.name
