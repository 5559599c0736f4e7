use Rattle.std.proofs.Common.{rules}
use Rattle.work_team.proofs.Workers.{goes_on}
use Rattle.work_team.proofs.worker.draw_all.Goals as goal

pub loop-piece-preserved : goal.loop-piece-preserved
loop-piece-preserved g c = (
  search rules,
  rw c.plus-sum.ensures (goes_on _ _ _ _ _ _ _ _ _ _ _ _ c.loop-piece.invariant.1 c.in-Some.ensures.piece c.in-Some.ensures.known c.run-tally.ensures.played c.run-tally.ensures.steps c.run-tally.ensures.tally c.run-tally.ensures.within),
)
