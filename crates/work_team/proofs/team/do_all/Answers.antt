use Rattle.std.proofs.Common.{◌∙◌}
use Rattle.force_board.specs.Seats.{part}
use Rattle.work_team.proofs.Phase.{done, reads, tally_all}
use Rattle.work_team.proofs.team.do_all.Goals as goal

pub returns-clause-done : goal.returns-clause-done
returns-clause-done g c =
    let worked = c.work_together.ensures.worked in
    done c.args.board.now _ (part c.args.seat.now) _ _ worked (worked.shares ∙ c.requires.all)

pub returns-clause-reads : goal.returns-clause-reads
returns-clause-reads g c =
    let worked = c.work_together.ensures.worked in
    reads c.args.board.now _ (part c.args.seat.now) _ _ worked (worked.shares ∙ c.requires.all) c.requires.small

pub returns-clause-tally : goal.returns-clause-tally
returns-clause-tally g c =
    let worked = c.work_together.ensures.worked in
    tally_all c.args.board.now _ (part c.args.seat.now) _ _ worked (worked.shares ∙ c.requires.all)
