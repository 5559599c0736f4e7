use Rattle.std.specs.BTreeMap.{get}
use Rattle.std.specs.Ordering.{nat_cmp}
use Rattle.bonded.proofs.RowLemmas.{put_more}
use Rattle.bonded.proofs.specials.put_all.Goals as goal

pub loop-id-preserved : goal.loop-id-preserved
loop-id-preserved c =
    λ other. put_more c.args.ids.now c.loop-id.id-index c.args.weight other _ (get nat_cmp c.loop-id.row other) (get nat_cmp c.args.row.now other)
    c.loop-id-test.true (c.in_ok-insert.ensures.updates.0 other) (c.loop-id.invariant other)
