use Rattle.std.proofs.Common.{◌^◌, ◌*ℤ◌, arith}
use Rattle.bonded.proofs.EnergyLemmas.{energy_fits, energy_is, energy_small, square_wide, stretched}
use Rattle.bonded.proofs.bond.energy.Goals as goal

pub product-requires : goal.product-requires
product-requires c = square_wide c.from-3.result c.product-square.result c.from.result c.from-2.result c.args.k c.args.gap c.requires.k c.requires.gap c.from-3.ensures c.product-square.ensures.is c.from.ensures c.from-2.ensures

pub rsh-requires-clause-dividend : goal.rsh-requires-clause-dividend
rsh-requires-clause-dividend c =
    let p = stretched c.product.result c.from-3.result c.product-square.result c.from.result c.from-2.result c.args.k c.args.gap c.requires.k c.requires.gap c.product.ensures.is c.from-3.ensures c.product-square.ensures.is c.from.ensures c.from-2.ensures in
    rw p.0 (omega (arith, p.2))

pub overflow_cast-result : goal.overflow_cast-result
overflow_cast-result c =
    let p = stretched c.product.result c.from-3.result c.product-square.result c.from.result c.from-2.result c.args.k c.args.gap c.requires.k c.requires.gap c.product.ensures.is c.from-3.ensures c.product-square.ensures.is c.from.ensures c.from-2.ensures in
    energy_fits c.rsh.result c.product.result 48 (2 ^ 46) c.rsh.ensures.is p.0 p.2 (omega arith) (omega arith)

pub returns-clause-is : goal.returns-clause-is
returns-clause-is c =
    let p = stretched c.product.result c.from-3.result c.product-square.result c.from.result c.from-2.result c.args.k c.args.gap c.requires.k c.requires.gap c.product.ensures.is c.from-3.ensures c.product-square.ensures.is c.from.ensures c.from-2.ensures in
    energy_is c.rsh.result c.product.result (c.args.k *ℤ (c.args.gap *ℤ c.args.gap)) 48 (2 ^ 46) c.rsh.ensures.is p.0 p.1 p.2 (omega arith) (omega arith)

pub returns-clause-bound : goal.returns-clause-bound
returns-clause-bound c =
    let p = stretched c.product.result c.from-3.result c.product-square.result c.from.result c.from-2.result c.args.k c.args.gap c.requires.k c.requires.gap c.product.ensures.is c.from-3.ensures c.product-square.ensures.is c.from.ensures c.from-2.ensures in
    energy_small c.rsh.result c.product.result 48 (2 ^ 46) c.rsh.ensures.is p.0 p.2 (omega arith) (omega arith)
