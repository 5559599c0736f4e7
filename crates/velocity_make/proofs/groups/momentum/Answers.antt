use Rattle.std.proofs.Common.{◌≡◌, ◌∙◌, ◌+◌, ◌*◌, ◌^◌, ◌<◌, ◌≤◌, ℤ, ◌+ℤ◌, unsigned_abs, get_or, ℕ, to_z, of_z, ap, arith}
use Rattle.std.specs.Int.{w128}
use Rattle.std.proofs.lemmas.Int.{ints}
use Rattle.sums.proofs.Totals.{total_step}
use Rattle.velocity_make.specs.Group.{momentum_of, of_group, momentum, members}
use Rattle.velocity_make.proofs.CastLemmas.{same128}
use Rattle.velocity_make.proofs.SumLemmas.{group_sum, momentum_within, slow_along}
use Rattle.velocity_make.proofs.groups.momentum.Goals as goal

sum_within : (s p : ℤ) (i : ℕ) → unsigned_abs s ≤ i * 2 ^ 62 → unsigned_abs p ≤ 2 ^ 62 → unsigned_abs (s +ℤ p) ≤ (i + 1) * 2 ^ 62
sum_within s p i low part =
    let sides : unsigned_abs (s +ℤ p) ≤ unsigned_abs s + unsigned_abs p = omega (arith, ints) in
    omega (arith, sides, low, part)

pub loop-atom-preserved : goal.loop-atom-preserved
loop-atom-preserved c =
    let s : ℤ = to_z w128 c.loop-atom.sum-bits in
    let p : ℤ = c.part_of_momentum-sum.result in
    let part : to_z w128 (of_z w128 p) ≡ p = same128 p (omega (arith, c.part_of_momentum-sum.ensures.bound)) in
    let bound : unsigned_abs (s +ℤ p) ≤ (c.loop-atom.atom-index + 1) * 2 ^ 62 = sum_within s p c.loop-atom.atom-index c.loop-atom.invariant.1 c.part_of_momentum-sum.ensures.bound in
    let small : unsigned_abs (s +ℤ p) < 2 ^ 127 = omega (arith, bound, c.loop-atom-test.true, c.requires.few) in
    let whole : to_z w128 (of_z w128 (s +ℤ to_z w128 (of_z w128 p))) ≡ s +ℤ p = ap (λ (z : ℤ). to_z w128 (of_z w128 (s +ℤ z))) part ∙ same128 (s +ℤ p) small in (
      whole ∙ total_step (of_group c.args.ids.now (momentum_of c.args.mass.now c.args.axis)) c.args.atoms.now c.loop-atom.atom-index _ s p c.loop-atom-test.true c.loop-atom.invariant.0 c.part_of_momentum-sum.ensures.is,
      rw whole bound,
    )

pub returns-clause-is : goal.returns-clause-is
returns-clause-is c = group_sum c.args.ids.now (momentum_of c.args.mass.now c.args.axis) c.args.atoms.now c.loop-atom.atom-index (to_z w128 c.loop-atom.sum-bits) c.loop-atom-test.false c.loop-atom.invariant.0

pub returns-clause-bound : goal.returns-clause-bound
returns-clause-bound c =
    let is : to_z w128 c.loop-atom.sum-bits ≡ momentum c.args.mass.now c.args.axis (members c.args.ids.now c.args.atoms.now) =
    group_sum c.args.ids.now (momentum_of c.args.mass.now c.args.axis) c.args.atoms.now c.loop-atom.atom-index (to_z w128 c.loop-atom.sum-bits) c.loop-atom-test.false c.loop-atom.invariant.0 in
    rw is (momentum_within c.args.mass.now c.args.ids.now c.args.axis (2 ^ 32) c.args.atoms.now c.requires.masses (λ i d lt. λ member. slow_along c.args.axis (get_or c.args.atoms.now i d) c.requires.axis (c.requires.speeds i d lt)))
