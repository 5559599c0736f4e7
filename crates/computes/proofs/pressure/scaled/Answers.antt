use Rattle.std.proofs.Common.{◌≡◌, ◌^◌, ◌≤◌, ℤ, pos, ◌+ℤ◌, ◌*ℤ◌, unsigned_abs, FitsSigned, to_z, of_z, arith, rules, ap, ◌∙◌}
use Rattle.std.specs.Int.{w128}
use Rattle.std.proofs.lemmas.Int.{to_z-of_z, fits_signed_from_abs}
use Rattle.fx_num.specs.Rounding.{shr_rounded}
use Rattle.computes.proofs.PressureLemmas.{shifted_bound, sum_bound, plain_sum_bound, small_sum}
use Rattle.computes.proofs.pressure.scaled.Goals as goal

first_is : (c : goal.After-rsh-2) → c.rsh.result ≡ shr_rounded c.args.s 48
first_is c = c.rsh.ensures.is ∙ ap (λ (x : ℤ). shr_rounded x 48) (to_z-of_z w128 c.args.s c.ranges.s)

second_is : (c : goal.After-rsh-2) → c.rsh-2.result ≡ shr_rounded c.args.w 24
second_is c = c.rsh-2.ensures.is ∙ ap (λ (x : ℤ). shr_rounded x 24) (to_z-of_z w128 c.args.w c.ranges.w)

first_bound : (c : goal.After-rsh-2) → unsigned_abs c.rsh.result ≤ 2 ^ 73
first_bound c = rw (first_is c) (shifted_bound c.args.s 48 (2 ^ 73) c.requires.kinetic)

second_bound : (c : goal.After-rsh-2) → unsigned_abs c.rsh-2.result ≤ 2 ^ 97
second_bound c = rw (second_is c) (shifted_bound c.args.w 24 (2 ^ 97) c.requires.virial)

value_is : (c : goal.After-rsh-2) → to_z w128 (of_z w128 (to_z w128 (of_z w128 (to_z w128 (of_z w128 c.rsh.result) +ℤ to_z w128 (of_z w128 c.rsh-2.result))) *ℤ pos 16777216)) ≡ (c.rsh.result +ℤ c.rsh-2.result) *ℤ pos 16777216
value_is c =
    let f1 : FitsSigned w128 c.rsh.result = search rules in
    let f2 : FitsSigned w128 c.rsh-2.result = search rules in
    let f3 : FitsSigned w128 (c.rsh.result +ℤ c.rsh-2.result) = fits_signed_from_abs w128 _ (omega (arith, plain_sum_bound c.rsh.result c.rsh-2.result (first_bound c) (second_bound c))) in
    let f4 : FitsSigned w128 ((c.rsh.result +ℤ c.rsh-2.result) *ℤ pos 16777216) = fits_signed_from_abs w128 _ (omega (arith, sum_bound c.rsh.result c.rsh-2.result (first_bound c) (second_bound c))) in
    simp to_z-of_z

pub overflow_mul-result : goal.overflow_mul-result
overflow_mul-result c =
    let f1 : FitsSigned w128 c.rsh.result = search rules in
    let f2 : FitsSigned w128 c.rsh-2.result = search rules in
    let f3 : FitsSigned w128 (c.rsh.result +ℤ c.rsh-2.result) = fits_signed_from_abs w128 _ (omega (arith, plain_sum_bound c.rsh.result c.rsh-2.result (first_bound c) (second_bound c))) in
    let f4 : FitsSigned w128 ((c.rsh.result +ℤ c.rsh-2.result) *ℤ pos 16777216) = fits_signed_from_abs w128 _ (omega (arith, sum_bound c.rsh.result c.rsh-2.result (first_bound c) (second_bound c))) in
    simp to_z-of_z f4

pub returns-clause-is : goal.returns-clause-is
returns-clause-is c =
    value_is c ∙ ap (λ (x : ℤ). (x +ℤ c.rsh-2.result) *ℤ pos 16777216) (first_is c) ∙ ap (λ (y : ℤ). (shr_rounded c.args.s 48 +ℤ y) *ℤ pos 16777216) (second_is c)

pub returns-clause-bound : goal.returns-clause-bound
returns-clause-bound c = rw (value_is c) (sum_bound c.rsh.result c.rsh-2.result (first_bound c) (second_bound c))

pub returns-clause-small : goal.returns-clause-small
returns-clause-small c = λ (a : unsigned_abs c.args.s ≤ 2 ^ 112) (b : unsigned_abs c.args.w ≤ 2 ^ 80).
    rw (value_is c) (small_sum c.rsh.result c.rsh-2.result (rw (first_is c) (shifted_bound c.args.s 48 (2 ^ 64) a)) (rw (second_is c) (shifted_bound c.args.w 24 (2 ^ 56) b)))
