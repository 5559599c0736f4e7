use Rattle.std.proofs.Common.{◌≡◌, ◌+◌, ◌-◌}
use Rattle.std.specs.List.{list_all}
use Rattle.pair_lj.specs.Pairs.{are_had_with, types_from}
use Rattle.pair_lj.proofs.pair_settings.are_all_had.Given as goal

abbrev pub invariant-loop-i : goal.invariant-loop-i
invariant-loop-i l = list_all (λ i. are_had_with l.pairs i (types_from 1 l.kinds)) (types_from l.i ((l.kinds + 1) - l.i)) ≡ list_all (λ i. are_had_with l.pairs i (types_from 1 l.kinds)) (types_from 1 l.kinds)
