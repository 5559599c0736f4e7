use Rattle.std.proofs.Common.{refl, arith}
use Rattle.serial_step.specs.Forces.{with_force}
use Rattle.step_engine.specs.Rows.{no_force}
use Rattle.step_engine.proofs.RowLemmas.{mapped_more}
use Rattle.step_engine.proofs.pairs.clear_forces.Goals as goal

pub loop-atom-preserved : goal.loop-atom-preserved
loop-atom-preserved c = mapped_more (λ a. with_force a no_force) c.args.atoms.now c.loop-atom.atoms c.loop-atom.atom-index _ _ (omega arith) (omega arith) c.loop-atom.invariant refl
