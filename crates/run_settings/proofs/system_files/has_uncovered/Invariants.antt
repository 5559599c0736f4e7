use Rattle.std.proofs.Common.{◌≡◌, drop}
use Rattle.std.specs.List.{list_any}
use Rattle.meaning.specs.SystemFiles.{is_uncovered_line}
use Rattle.run_settings.proofs.system_files.has_uncovered.Given as goal

abbrev pub invariant-loop-line : goal.invariant-loop-line
invariant-loop-line l = list_any (is_uncovered_line l.cutoff) (drop l.line-index l.lines) ≡ list_any (is_uncovered_line l.cutoff) l.lines
