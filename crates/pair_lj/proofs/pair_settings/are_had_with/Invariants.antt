use Rattle.std.proofs.Common.{◌≡◌, ◌+◌, ◌-◌}
use Rattle.std.specs.List.{list_all}
use Rattle.std.specs.Option.{is_some}
use Rattle.pair_lj.specs.Pairs.{numbers_at, types_from}
use Rattle.pair_lj.proofs.pair_settings.are_had_with.Given as goal

abbrev pub invariant-loop-j : goal.invariant-loop-j
invariant-loop-j l = list_all (λ j. is_some (numbers_at l.pairs l.i j)) (types_from l.j ((l.kinds + 1) - l.j)) ≡ list_all (λ j. is_some (numbers_at l.pairs l.i j)) (types_from 1 l.kinds)
