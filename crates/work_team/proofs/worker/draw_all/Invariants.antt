use Rattle.std.proofs.Common.{◌-◌, length}
use Rattle.force_board.specs.Seats.{pieces_of, part, IsSeatOf}
use Rattle.work_team.proofs.Workers.{IsDrawing}
use Rattle.work_team.proofs.worker.draw_all.Given as goal

abbrev pub invariant-loop-piece : goal.invariant-loop-piece
invariant-loop-piece g l = IsSeatOf l.board l.seat × IsDrawing (pieces_of l.board) (g.W.Work.effect l.work) (part l.fn.seat) (part l.seat) l.fn.steps l.steps l.sum

abbrev pub decreases-loop-piece : goal.decreases-loop-piece
decreases-loop-piece g l = pieces_of l.board - length (part l.seat).pieces
