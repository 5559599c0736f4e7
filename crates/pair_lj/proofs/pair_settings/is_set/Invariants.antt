use Rattle.std.proofs.Common.{◌≡◌, drop}
use Rattle.pair_lj.specs.Pairs.{is_set}
use Rattle.pair_lj.proofs.pair_settings.is_set.Given as goal

abbrev pub invariant-loop-pair : goal.invariant-loop-pair
invariant-loop-pair l = is_set (drop l.pair-index l.pairs) l.i l.j ≡ is_set l.pairs l.i l.j
