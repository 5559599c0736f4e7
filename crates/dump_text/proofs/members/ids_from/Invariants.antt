use Rattle.std.proofs.Common.{◌≡◌, length}
use Rattle.dump_text.specs.Walk.{ids_from}
use Rattle.dump_text.proofs.members.ids_from.Given as goal

abbrev pub invariant-loop-rest : goal.invariant-loop-rest
invariant-loop-rest l = ids_from l.id l.rest ≡ ids_from l.id l.ids

abbrev pub decreases-loop-rest : goal.decreases-loop-rest
decreases-loop-rest l = length l.rest
