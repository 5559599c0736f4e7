use Rattle.std.proofs.Common.{◌≡◌, ◌++◌, drop, map, take}
use Rattle.pair_lj.specs.Pairs.{replaced}
use Rattle.pair_lj.proofs.pair_settings.replace.Given as goal

abbrev pub invariant-loop-i : goal.invariant-loop-i
invariant-loop-i l = l.pairs ≡ map (replaced l.pair) (take l.i l.initial.pairs) ++ drop l.i l.initial.pairs
