use Rattle.std.proofs.Common.{◌≡◌, pos}
use Rattle.fx_num.specs.Rounding.{div_rounded}
use Rattle.ave_time.proofs.SumLemmas.{changed}
use Rattle.ave_time.proofs.sums.average_all.Given as goal

abbrev pub invariant-loop-i : goal.invariant-loop-i
invariant-loop-i l = l.list ≡ changed (λ x y. div_rounded y (pos l.repeat)) l.i l.initial.list l.sums
