use Rattle.std.proofs.Common.{◌≡◌, ◌-◌, length}
use Rattle.force_board.specs.Seats.{pieces_of, part, IsSeatOf}
use Rattle.part_tests.proofs.boards.claim_all.Given as goal

abbrev pub invariant-loop-piece : goal.invariant-loop-piece
invariant-loop-piece l = IsSeatOf l.board l.seat × ((part l.seat).misses ≡ 0)

abbrev pub decreases-loop-piece : goal.decreases-loop-piece
decreases-loop-piece l = pieces_of l.board - length (part l.seat).pieces
