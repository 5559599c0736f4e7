use Rattle.std.proofs.Common.{◌≡◌, drop}
use Rattle.var_table.specs.Variables.{place_from}
use Rattle.var_table.proofs.search.place_of.Given as goal

abbrev pub invariant-loop-i : goal.invariant-loop-i
invariant-loop-i l = place_from l.i (drop l.i l.items) l.name ≡ place_from 0 l.items l.name
