use Rattle.std.proofs.Common.{◌≡◌, drop}
use Rattle.meaning.specs.Fixes.{move_twice}
use Rattle.script_runs.proofs.judge.move_twice.Given as goal

abbrev pub invariant-loop-atom : goal.invariant-loop-atom
invariant-loop-atom l = move_twice l.fixes (drop l.atom-index l.atoms) ≡ move_twice l.fixes l.atoms
