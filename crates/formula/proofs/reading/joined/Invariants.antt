use Rattle.std.proofs.Common.{◌≡◌, length}
use Rattle.formula.specs.Reading.{joined}
use Rattle.formula.proofs.reading.joined.Given as goal

abbrev pub invariant-loop-frame : goal.invariant-loop-frame
invariant-loop-frame l = joined l.level l.frames l.operand ≡ joined l.level l.fn.frames l.fn.operand

abbrev pub decreases-loop-frame : goal.decreases-loop-frame
decreases-loop-frame l = length l.frames
