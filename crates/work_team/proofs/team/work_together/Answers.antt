use Rattle.std.proofs.Common.{◌≤◌, ◌-◌, rules}
use Rattle.weave_core.specs.Parts.{fresh, giving}
use Rattle.force_board.specs.Seats.{pieces_of, part}
use Rattle.work_team.specs.Effects.{Worked}
use Rattle.work_team.proofs.Workers.{joins}
use Rattle.work_team.proofs.team.work_together.Goals as goal

pub returns-clause-worked : goal.returns-clause-worked
returns-clause-worked g c =
    let count = pieces_of c.args.board.now in
    let effect = g.W.Work.effect c.args.work.now in
    let old = part c.args.seat.now in
    let v = part c.seat-1.given.0 in
    let w = part c.other-2-1.given.0 in
    let helpers = c.args.workers - 1 in
    let fewer : helpers ≤ old.shares = search rules in
    let mine : Worked count effect (giving helpers old) v c.join_mut.result.1 = search rules in
    let theirs : Worked count effect (fresh helpers) w c.join_mut.result.0 = search rules in
    let together = joins count effect old v w _ helpers _ _ fewer mine theirs c.join.ensures.both c.join.ensures.known in
    search rules
