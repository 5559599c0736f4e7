use Rattle.std.proofs.Common.{◌∙◌, pos, arith}
use Rattle.std.specs.Int.{w128}
use Rattle.std.proofs.lemmas.Int.{to_z_pos}
use Rattle.sums.proofs.Totals.{total_step}
use Rattle.computes.specs.Quantities.{kinetic_of, kinetic_sum}
use Rattle.velocity_make.specs.Group.{of_group}
use Rattle.velocity_make.proofs.SumLemmas.{group_sum}
use Rattle.velocity_make.proofs.groups.kinetic_sum.Goals as goal

pub loop-atom-preserved : goal.loop-atom-preserved
loop-atom-preserved c = (
  total_step (of_group c.args.ids.now (kinetic_of c.args.mass.now)) c.args.atoms.now c.loop-atom.atom-index _ (pos c.loop-atom.sum) (pos c.part_of_kinetic-sum.result) (omega arith) c.loop-atom.invariant.0 c.part_of_kinetic-sum.ensures.is,
  omega arith,
)

pub returns-clause-is : goal.returns-clause-is
unfolding kinetic_sum
returns-clause-is c =
    to_z_pos w128 c.loop-atom.sum (omega (arith, c.loop-atom.invariant.1, c.loop-atom.auto.atom-index-end, c.requires.few))
    ∙ group_sum c.args.ids.now (kinetic_of c.args.mass.now) c.args.atoms.now c.loop-atom.atom-index (pos c.loop-atom.sum) c.loop-atom-test.false c.loop-atom.invariant.0
