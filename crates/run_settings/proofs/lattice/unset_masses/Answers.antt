use Rattle.std.proofs.Common.{rules}
use Rattle.run_settings.proofs.LatticeLemmas.{masses_step}
use Rattle.run_settings.proofs.lattice.unset_masses.Goals as goal

pub loop-kind-preserved : goal.loop-kind-preserved
loop-kind-preserved c = search (rules, masses_step)
