use Rattle.std.proofs.Common.{◌≡◌, drop, unsigned_abs}
use Rattle.std.specs.List.{list_any, zip}
use Rattle.serial_step.specs.Rebuild.{is_far, positions}
use Rattle.step_engine.proofs.rebuild.renews.Given as goal

abbrev pub invariant-loop-i : goal.invariant-loop-i
invariant-loop-i l =
    list_any (is_far l.rules.cell.sides (unsigned_abs l.rules.skin)) (zip (positions (drop l.i l.atoms)) (drop l.i l.references))
    ≡ list_any (is_far l.rules.cell.sides (unsigned_abs l.rules.skin)) (zip (positions l.atoms) l.references)
