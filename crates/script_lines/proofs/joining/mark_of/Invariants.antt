use Rattle.std.proofs.Common.{◌≡◌, ◌<◌, drop, IfSome}
use Rattle.script_lines.specs.Joining.{mark_from, mark_of}
use Rattle.script_lines.proofs.joining.mark_of.Given as goal

abbrev pub invariant-loop-i : goal.invariant-loop-i
invariant-loop-i l = (mark_from l.mark l.i (drop l.i l.line) ≡ mark_of l.line) × IfSome l.mark (λ k. k < l.i)
