use Rattle.std.proofs.Common.{◌≡◌, ◌+◌, ◌≤◌, length}
use Rattle.data_file.specs.Data.{read_lines, read_text}
use Rattle.script_lines.specs.Physical.{physical_lines}
use Rattle.data_file.proofs.read.read_from.Given as goal

abbrev pub invariant-lines : goal.invariant-lines
invariant-lines l = record {
  same : read_lines (physical_lines l.rest) l.number l.reading ≡ read_text l.fn.reading (physical_lines l.bytes);
  few : l.number + length l.rest ≤ 1 + length l.bytes;
}

abbrev pub decreases-lines : goal.decreases-lines
decreases-lines l = length l.rest
