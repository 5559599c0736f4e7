use Rattle.std.proofs.Common.{[]}
use Rattle.box_geo.specs.declared.limits.TheConstants.{MAX_ATOMS}
use Rattle.lattice_fill.specs.Points.{inside_of_layer}
use Rattle.lattice_fill.proofs.PassLemmas.{Passed}
use Rattle.lattice_fill.proofs.lattice.Lattice.fill.Given as goal

abbrev pub invariant-loop-n : goal.invariant-loop-n
invariant-loop-n l = Passed (inside_of_layer l.self.style l.self.spacings l.cell.sides) l.layers.first l.layers.count l.n MAX_ATOMS [] l.points
