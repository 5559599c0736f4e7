use Rattle.std.proofs.Common.{pos, arith}
use Rattle.sums.proofs.Totals.{total_step}
use Rattle.velocity_make.specs.Group.{mass_of, of_group}
use Rattle.velocity_make.proofs.SumLemmas.{group_sum}
use Rattle.velocity_make.proofs.groups.whole_mass.Goals as goal

pub loop-atom-preserved : goal.loop-atom-preserved
loop-atom-preserved c = (
  total_step (of_group c.args.ids.now (mass_of c.args.mass.now)) c.args.atoms.now c.loop-atom.atom-index _ (pos c.loop-atom.sum) (pos c.part_of_mass-sum.result) (omega arith) c.loop-atom.invariant.0 c.part_of_mass-sum.ensures.is,
  omega arith,
)

pub returns-clause-is : goal.returns-clause-is
returns-clause-is c = group_sum c.args.ids.now (mass_of c.args.mass.now) c.args.atoms.now c.loop-atom.atom-index (pos c.loop-atom.sum) c.loop-atom-test.false c.loop-atom.invariant.0
