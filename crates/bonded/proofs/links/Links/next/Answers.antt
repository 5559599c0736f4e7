use Rattle.bonded.specs.Rows.{neighbours}
use Rattle.bonded.proofs.RowLemmas.{next_more}
use Rattle.bonded.proofs.links.Links.next.Goals as goal

pub loop-id-preserved : goal.loop-id-preserved
loop-id-preserved c =
    next_more (neighbours c.args.self.now.neighbours) c.args.ids.now c.loop-id.id-index c.loop-id.found.items _ c.neighbours.result.now
    c.in_ok-extend_from_slice.ensures.items c.neighbours.ensures c.loop-id.invariant c.loop-id-test.true
