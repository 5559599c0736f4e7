use Rattle.pair_lj.proofs.Sizes.{square_small}
use Rattle.pair_lj.proofs.magnitudes.wide_square_of_sixth.Goals as goal

pub returns-clause-bound : goal.returns-clause-bound
returns-clause-bound c = rw c.nearest_shift.ensures.is (square_small c.args.s c.requires)
