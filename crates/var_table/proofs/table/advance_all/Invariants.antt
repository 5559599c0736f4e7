use Rattle.std.proofs.Common.{◌-◌, length}
use Rattle.var_table.proofs.PlaceLemmas.{Advanced}
use Rattle.var_table.proofs.table.advance_all.Given as goal

abbrev pub invariant-loop-i : goal.invariant-loop-i
invariant-loop-i l = Advanced l.names l.initial.items.items l.items.items l.i l.exhausted

abbrev pub decreases-loop-i : goal.decreases-loop-i
decreases-loop-i l = length l.items.items - l.i
