use Rattle.std.proofs.Common.{All, take}
use Rattle.weave_core.specs.Machine.{IsAdd}
use Rattle.weave_core.proofs.plan.Adds.are_within.Given as goal

abbrev pub invariant-loop-place : goal.invariant-loop-place
invariant-loop-place l = All (IsAdd l.words) (take l.place l.self)
