use Rattle.std.proofs.Common.{pos, arith}
use Rattle.sums.proofs.Totals.{total_step}
use Rattle.computes.specs.Quantities.{kinetic_of}
use Rattle.computes.proofs.kinetic.kinetic_sum.Goals as goal

pub loop-atom-preserved : goal.loop-atom-preserved
loop-atom-preserved c = (
  total_step (kinetic_of c.args.mass.now) c.args.atoms.now c.loop-atom.atom-index _ (pos c.loop-atom.sum) (pos c.kinetic_of-sum.result) (omega arith) c.loop-atom.invariant.0 c.kinetic_of-sum.ensures.is,
  omega arith,
)
