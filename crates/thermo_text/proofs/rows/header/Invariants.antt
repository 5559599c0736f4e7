use Rattle.std.proofs.Common.{◌≡◌, map, take}
use Rattle.std.specs.List.{join_with_byte}
use Rattle.thermo_text.specs.Thermo.{name_cell}
use Rattle.thermo_text.proofs.rows.header.Given as goal

abbrev pub invariant-loop-place : goal.invariant-loop-place
invariant-loop-place l = l.row ≡ join_with_byte 32 (map name_cell (take l.place l.columns))
