use Rattle.std.proofs.Common.{ℕ, ◌<◌, get_or}
use Rattle.thermo_text.specs.declared.columns.Keyword.{Keyword}
use Rattle.thermo_text.specs.Thermo.{HasNumber}
use Rattle.thermo_text.proofs.rows.tests.has_each_number.Given as goal

abbrev pub invariant-loop-keyword : goal.invariant-loop-keyword
invariant-loop-keyword l = (k : ℕ) (d : Keyword) → k < l.keyword-index → HasNumber l.numbers (get_or l.keyword-items k d)
