use Rattle.std.proofs.Common.{◌≡◌, ◌+◌, ◌++◌, map, take, drop}
use Rattle.serial_step.specs.Forces.{field_of}
use Rattle.step_engine.specs.Rows.{IsRowWithin, pushed_by, row_of}
use Rattle.step_engine.proofs.rows.add_row.Given as goal

abbrev pub invariant-loop-other : goal.invariant-loop-other
invariant-loop-other g l = record {
  row : l.row ≡ row_of (field_of l.pairs.pairs) l.cell.sides l.own (take l.other-index l.fn.others);
  others : l.others ≡ map (pushed_by (field_of l.pairs.pairs) l.cell.sides l.own) (take l.other-index l.fn.others) ++ drop l.other-index l.fn.others;
  bound : IsRowWithin l.other-index l.row;
  steps : l.steps ≡ l.fn.steps + l.other-index;
}
