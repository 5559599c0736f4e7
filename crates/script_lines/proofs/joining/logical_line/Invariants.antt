use Rattle.std.proofs.Common.{◌<◌, length}
use Rattle.script_lines.proofs.JoiningLemmas.{Joins}
use Rattle.script_lines.proofs.joining.logical_line.Given as goal

abbrev pub invariant-joining : goal.invariant-joining
invariant-joining l = Joins l.text l.ended l.joint l.joined.text l.joined.reading.mode l.joined.reading.opened l.after l.passed × (0 < length l.after)

abbrev pub decreases-joining : goal.decreases-joining
decreases-joining l = length l.after
