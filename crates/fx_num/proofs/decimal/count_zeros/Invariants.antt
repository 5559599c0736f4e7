use Rattle.std.proofs.Common.{◌≡◌, ◌+◌, ◌==◌, drop}
use Rattle.std.specs.List.{prefix_len}
use Rattle.fx_num.proofs.decimal.count_zeros.Given as goal

abbrev pub invariant-loop-i : goal.invariant-loop-i
invariant-loop-i l = l.i + prefix_len (λ b. b == 48) (drop l.i l.digits) ≡ prefix_len (λ b. b == 48) l.digits
