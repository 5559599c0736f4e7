use Rattle.std.proofs.Common.{◌*◌, ◌≤◌, pos, rules, sym}
use Rattle.box_geo.specs.Sides.{length2}
use Rattle.pair_lj.proofs.Cases.{far}
use Rattle.pair_lj.proofs.evaluate.guess_for.Goals as goal

pub returns-in-None-clause-none : goal.returns-in-None-clause-none
returns-in-None-clause-none c =
    let beyond : c.args.k.cutoff * c.args.k.cutoff ≤ length2 c.args.d = search rules in
    λ weight. sym (far c.args.k.epsilon c.args.k.sigma c.args.k.cutoff (pos 0) weight c.args.d beyond)
