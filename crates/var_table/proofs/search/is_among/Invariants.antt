use Rattle.std.proofs.Common.{◌≡◌, drop}
use Rattle.var_table.specs.Variables.{is_among}
use Rattle.var_table.proofs.search.is_among.Given as goal

abbrev pub invariant-loop-name : goal.invariant-loop-name
invariant-loop-name l = is_among (drop l.name-index l.names) l.variable ≡ is_among l.names l.variable
