use Rattle.std.proofs.Common.{◌≡◌, drop}
use Rattle.std.specs.Str.Parse.{digits_value_after}
use Rattle.fx_num.proofs.decimal.value.Given as goal

abbrev pub invariant-loop-b : goal.invariant-loop-b
invariant-loop-b l = digits_value_after 10 l.n (drop l.b-index l.digits) ≡ digits_value_after 10 l.initial.n l.digits
