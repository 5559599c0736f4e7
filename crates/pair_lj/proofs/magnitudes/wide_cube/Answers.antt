use Rattle.pair_lj.proofs.Sizes.{cube_small}
use Rattle.pair_lj.proofs.magnitudes.wide_cube.Goals as goal

pub returns-clause-bound : goal.returns-clause-bound
returns-clause-bound c = rw c.nearest_shift.ensures.is (cube_small c.args.w c.requires)
