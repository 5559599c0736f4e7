use Rattle.pair_lj.proofs.Sizes.{energy_small}
use Rattle.pair_lj.proofs.magnitudes.energy_size.Goals as goal

pub returns-clause-bound : goal.returns-clause-bound
returns-clause-bound c = rw c.nearest_shift.ensures.is (energy_small c.args.epsilon c.args.gap c.requires.epsilon c.requires.gap)
