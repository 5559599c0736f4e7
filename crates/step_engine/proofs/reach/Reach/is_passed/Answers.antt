use Rattle.std.proofs.Common.{◌*◌, ◌<◌, ◌≤◌, MatchBool, subst}
use Rattle.step_engine.proofs.ReachLemmas.{sum_of_squares}
use Rattle.step_engine.proofs.reach.Reach.is_passed.Goals as goal

pub returns : goal.returns
returns c =
    let least = c.args.self.now.cutoff * c.args.self.now.cutoff in
    subst (λ n. MatchBool c.is_exceeded.result (least ≤ n) (n < least))
    (sum_of_squares _ _ _ _ _ _ c.apart_along-x.ensures c.apart_along-y.ensures c.apart_along-z.ensures)
    c.is_exceeded.ensures
