use Rattle.std.proofs.Common.{◌≡◌, ◌≤◌, ◌+◌, [], drop, count_by, slice_index_or, unsigned_abs}
use Rattle.step_engine.proofs.RebuildLemmas.{is_near}
use Rattle.step_engine.proofs.rebuild.neighbours_after.Given as goal

abbrev pub invariant-loop-reference : goal.invariant-loop-reference
invariant-loop-reference l =
    (l.count ≤ l.reference-index)
    × (l.count + count_by (is_near l.rules.cell.sides (unsigned_abs l.rules.field.rcmax + unsigned_abs l.rules.skin) (slice_index_or l.references l.place [])) (drop l.reference-index l.reference-items)
    ≡ count_by (is_near l.rules.cell.sides (unsigned_abs l.rules.field.rcmax + unsigned_abs l.rules.skin) (slice_index_or l.references l.place [])) l.reference-items)
