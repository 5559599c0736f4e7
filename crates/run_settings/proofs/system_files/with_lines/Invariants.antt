use Rattle.std.proofs.Common.{◌≡◌, drop}
use Rattle.meaning.specs.SystemFiles.{with_lines}
use Rattle.run_settings.proofs.system_files.with_lines.Given as goal

abbrev pub invariant-loop-line : goal.invariant-loop-line
invariant-loop-line l = with_lines l.cutoff (drop l.line-index l.lines) l.new ≡ with_lines l.cutoff l.lines l.pairs
