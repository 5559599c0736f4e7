use Rattle.std.proofs.Common.{◌≡◌, drop}
use Rattle.pair_lj.specs.Pairs.{coefficients_of}
use Rattle.pair_lj.proofs.pair_settings.coefficients_of.Given as goal

abbrev pub invariant-loop-pair : goal.invariant-loop-pair
invariant-loop-pair l = coefficients_of (drop l.pair-index l.pairs) l.i l.j ≡ coefficients_of l.pairs l.i l.j
