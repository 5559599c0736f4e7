use Rattle.std.proofs.Common.{◌≡◌, ◌≤◌, ◌^◌, unsigned_abs, Ok}
use Rattle.formula.specs.Arithmetic.{power_of}
use Rattle.formula.proofs.arithmetic.power_of.Given as goal

abbrev pub invariant-loop : goal.invariant-loop
invariant-loop l = (power_of l.a l.counter ≡ Ok l.product) × (unsigned_abs l.product ≤ 2 ^ 62)
