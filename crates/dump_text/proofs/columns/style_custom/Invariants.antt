use Rattle.std.proofs.Common.{◌≡◌, drop}
use Rattle.dump_text.specs.Columns.{style_custom}
use Rattle.dump_text.proofs.ColumnLemmas.{with_others}
use Rattle.dump_text.proofs.columns.style_custom.Given as goal

abbrev pub invariant-loop-keyword : goal.invariant-loop-keyword
invariant-loop-keyword l = with_others l.columns (style_custom (drop l.keyword-index l.keywords)) ≡ style_custom l.keywords
