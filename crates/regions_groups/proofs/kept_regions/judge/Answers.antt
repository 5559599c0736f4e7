use Rattle.std.proofs.Common.{◌<◌, length, arith}
use Rattle.regions_groups.proofs.PlaceLemmas.{judged}
use Rattle.regions_groups.proofs.kept_regions.judge.Goals as goal

pub loop-i-preserved : goal.loop-i-preserved
loop-i-preserved c =
    let within : c.loop-i.i < length c.args.kept.now = omega arith in
    let room : c.loop-i.i < length c.loop-i.known = omega (arith, c.requires.room) in
    judged c.args.kept.now c.loop-i.known c.loop-i.i c.index-kept-i.result c.args.x.now c.holds_by-answer.result c.requires.placed within room
    c.index-kept-i.is c.loop-i.invariant c.holds_by-answer.ensures
