use Rattle.std.proofs.Common.{◌≡◌, drop}
use Rattle.pair_lj.specs.Pairs.{are_covered}
use Rattle.pair_lj.proofs.pair_settings.PairSettings.are_covered.Given as goal

abbrev pub invariant-loop-pair : goal.invariant-loop-pair
invariant-loop-pair l = are_covered l.cutoff (drop l.pair-index l.pair-items) ≡ are_covered l.cutoff l.pair-items
