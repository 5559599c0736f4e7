use Rattle.std.proofs.Common.{◌*ℤ◌, FitsSigned, w64}
use Rattle.std.proofs.lemmas.Int.{to_z-of_z}
use Rattle.box_geo.proofs.WrapLemmas.{length_fits, length_small}
use Rattle.box_geo.proofs.wrap.length_of.Goals as goal

pub returns-clause-is : goal.returns-clause-is
returns-clause-is c =
    let e : FitsSigned w64 c.args.edges = c.ranges.edges in
    let l : FitsSigned w64 c.args.edge = c.ranges.edge in
    let p : FitsSigned w64 (c.args.edges *ℤ c.args.edge) = length_fits c.args.edges c.args.edge c.requires.edges c.requires.edge in
    simp to_z-of_z

pub returns-clause-bound : goal.returns-clause-bound
returns-clause-bound c =
    let e : FitsSigned w64 c.args.edges = c.ranges.edges in
    let l : FitsSigned w64 c.args.edge = c.ranges.edge in
    let p : FitsSigned w64 (c.args.edges *ℤ c.args.edge) = length_fits c.args.edges c.args.edge c.requires.edges c.requires.edge in
    simp to_z-of_z (length_small c.args.edges c.args.edge c.requires.edges c.requires.edge)
