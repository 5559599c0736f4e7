use Rattle.std.proofs.Common.{◌≤◌, ◌^◌, ◌+◌, length, unsigned_abs, arith}
use Rattle.step_engine.proofs.RebuildLemmas.{pairs_more}
use Rattle.step_engine.proofs.rebuild.neighbour_pairs.Goals as goal

pub loop-i-preserved : goal.loop-i-preserved
loop-i-preserved c =
    let reach = unsigned_abs c.args.rules.now.field.rcmax + unsigned_abs c.args.rules.now.skin in
    let few : length c.args.references.now ≤ 2 ^ 20 = c.requires.few in
    let more = pairs_more c.args.rules.now.cell.sides reach c.args.references.now c.loop-i.i c.loop-i-test.true in
    (omega (arith, c.neighbours_after-count.ensures.bound), omega (arith, more, c.neighbours_after-count.ensures.is))
