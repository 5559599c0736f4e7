use Rattle.std.proofs.Common.{◌≡◌, drop}
use Rattle.fx_num.specs.Numbers.{value_under}
use Rattle.fx_num.proofs.numbers.Numbers.value_of.Given as goal

abbrev pub invariant-loop-number : goal.invariant-loop-number
invariant-loop-number l = value_under (drop l.number-index l.number-items) l.keyword ≡ value_under l.number-items l.keyword
