use Rattle.std.proofs.Common.{◌≡◌, drop}
use Rattle.var_table.specs.Variables.{first_unknown}
use Rattle.var_table.proofs.search.first_unknown.Given as goal

abbrev pub invariant-loop-name : goal.invariant-loop-name
invariant-loop-name l = first_unknown l.items (drop l.name-index l.names) ≡ first_unknown l.items l.names
