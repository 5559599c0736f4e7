use Rattle.std.proofs.Common.{◌≡◌, drop}
use Rattle.std.specs.List.{find}
use Rattle.var_table.specs.Variables.{is_named}
use Rattle.var_table.proofs.search.find.Given as goal

abbrev pub invariant-loop-variable : goal.invariant-loop-variable
invariant-loop-variable l = find (is_named l.name) (drop l.variable-index l.items) ≡ find (is_named l.name) l.items
