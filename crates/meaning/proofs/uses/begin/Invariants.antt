use Rattle.std.proofs.Common.{◌≡◌, ◌++◌, drop, map, take}
use Rattle.meaning.specs.Uses.{begun_at}
use Rattle.meaning.proofs.uses.begin.Given as goal

abbrev pub invariant-loop-i : goal.invariant-loop-i
invariant-loop-i l = l.uses ≡ map (begun_at l.name) (take l.i l.initial.uses) ++ drop l.i l.initial.uses
