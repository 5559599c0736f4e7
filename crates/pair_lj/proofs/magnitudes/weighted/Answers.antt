use Rattle.pair_lj.proofs.Sizes.{weighted_small}
use Rattle.pair_lj.proofs.magnitudes.weighted.Goals as goal

pub returns-clause-bound : goal.returns-clause-bound
returns-clause-bound c = rw (c.nearest_shift.ensures.is, c.from.ensures) (weighted_small c.args.size c.args.weight c.requires.weight)
