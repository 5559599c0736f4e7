use Rattle.std.proofs.Common.{◌≡◌, ◌++◌, map, take}
use Rattle.std.specs.List.{join_with_byte}
use Rattle.dump_text.specs.Frame.{cell_text}
use Rattle.dump_text.proofs.rows.push_cells.Given as goal

abbrev pub invariant-loop-place : goal.invariant-loop-place
invariant-loop-place l =
    l.text ≡ l.initial.text ++ join_with_byte 32 (map (cell_text l.cell.sides l.masses l.atom) (take l.place l.columns))
