use Rattle.std.proofs.Common.{◌≡◌, ◌≤◌, ◌+◌, ◌*◌, ◌^◌, drop, count_by, unsigned_abs}
use Rattle.sums.specs.Totals.{half}
use Rattle.step_engine.proofs.RebuildLemmas.{are_near}
use Rattle.step_engine.proofs.rebuild.neighbour_pairs.Given as goal

abbrev pub invariant-loop-i : goal.invariant-loop-i
invariant-loop-i l =
    (l.count ≤ l.i * 2 ^ 20)
    × (l.count + count_by (are_near l.rules.cell.sides (unsigned_abs l.rules.field.rcmax + unsigned_abs l.rules.skin)) (half (drop l.i l.references))
    ≡ count_by (are_near l.rules.cell.sides (unsigned_abs l.rules.field.rcmax + unsigned_abs l.rules.skin)) (half l.references))
