use Rattle.std.proofs.Common.{◌≡◌, ◌++◌, drop, map, take}
use Rattle.pair_lj.specs.Pairs.{with_cutoff}
use Rattle.pair_lj.proofs.pair_settings.set_cutoffs.Given as goal

abbrev pub invariant-loop-i : goal.invariant-loop-i
invariant-loop-i l = l.pairs ≡ map (with_cutoff l.cutoff) (take l.i l.initial.pairs) ++ drop l.i l.initial.pairs
