use Rattle.std.proofs.Common.{◌≡◌, ◌+◌, ◌++◌, drop, map}
use Rattle.std.specs.List.{enumerate_from}
use Rattle.data_text.specs.DataText.{lines_text, mass_row}
use Rattle.data_text.proofs.rows.push_mass_rows.Given as goal

abbrev pub invariant-loop-place : goal.invariant-loop-place
invariant-loop-place l =
    l.text ++ lines_text (map mass_row (enumerate_from (l.place + 1) (drop l.place l.masses))) ≡ l.initial.text ++ lines_text (map mass_row (enumerate_from 1 l.masses))
