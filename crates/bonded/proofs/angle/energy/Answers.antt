use Rattle.std.proofs.Common.{◌^◌, pos, ◌+ℤ◌, ◌*ℤ◌, arith}
use Rattle.bonded.specs.Angles.{angle_energy}
use Rattle.bonded.proofs.EnergyLemmas.{energy_fits, energy_is, energy_small, raised}
use Rattle.bonded.proofs.angle.energy.Goals as goal

pub overflow_cast-result : goal.overflow_cast-result
overflow_cast-result c =
    let p = raised c.product.result c.from.result c.from-2.result c.args.k c.args.c c.requires.k c.requires.c c.product.ensures.is c.from.ensures c.from-2.ensures in
    energy_fits c.rsh.result c.product.result 24 (2 ^ 39) c.rsh.ensures.is p.0 p.2 (omega arith) (omega arith)

pub returns-clause-is : goal.returns-clause-is
unfolding angle_energy
returns-clause-is c =
    let p = raised c.product.result c.from.result c.from-2.result c.args.k c.args.c c.requires.k c.requires.c c.product.ensures.is c.from.ensures c.from-2.ensures in
    energy_is c.rsh.result c.product.result (c.args.k *ℤ (pos (2 ^ 24) +ℤ c.args.c)) 24 (2 ^ 39) c.rsh.ensures.is p.0 p.1 p.2 (omega arith) (omega arith)

pub returns-clause-bound : goal.returns-clause-bound
returns-clause-bound c =
    let p = raised c.product.result c.from.result c.from-2.result c.args.k c.args.c c.requires.k c.requires.c c.product.ensures.is c.from.ensures c.from-2.ensures in
    energy_small c.rsh.result c.product.result 24 (2 ^ 39) c.rsh.ensures.is p.0 p.2 (omega arith) (omega arith)
