use Rattle.std.proofs.Common.{◌≡◌, ◌+ℤ◌}
use Rattle.ave_time.proofs.SumLemmas.{changed}
use Rattle.ave_time.proofs.sums.add_all.Given as goal

abbrev pub invariant-loop-i : goal.invariant-loop-i
invariant-loop-i l = l.sums ≡ changed (λ x y. x +ℤ y) l.i l.initial.sums l.values
