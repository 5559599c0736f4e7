use Rattle.std.proofs.Common.{All, take}
use Rattle.weave_core.specs.declared.plan.Piece.{Piece}
use Rattle.weave_core.specs.Machine.{IsAdd}
use Rattle.weave_core.proofs.plan.Plan.is_valid.Given as goal

abbrev pub invariant-loop-number : goal.invariant-loop-number
invariant-loop-number l = All (λ (piece : Piece). All (IsAdd l.self.words) piece.adds) (take l.number l.self.pieces)
