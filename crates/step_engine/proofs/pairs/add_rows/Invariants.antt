use Rattle.std.proofs.Common.{◌≡◌, ◌+◌, length, drop}
use Rattle.serial_step.specs.Forces.{field_of}
use Rattle.sums.specs.Totals.{half}
use Rattle.step_engine.specs.Rows.{AreSumsUpTo, AreSumsWithin, forced_up_to}
use Rattle.step_engine.proofs.pairs.add_rows.Given as goal

abbrev pub invariant-loop-i : goal.invariant-loop-i
invariant-loop-i g l = record {
  atoms : l.atoms ≡ forced_up_to (field_of l.pairs.pairs) l.cell.sides l.fn.atoms l.i;
  sums : AreSumsUpTo (field_of l.pairs.pairs) l.cell.sides l.fn.atoms l.i l.sums;
  bound : AreSumsWithin l.i l.sums;
  steps : l.steps + length (half (drop l.i l.fn.atoms)) ≡ l.fn.steps + length (half l.fn.atoms);
}
