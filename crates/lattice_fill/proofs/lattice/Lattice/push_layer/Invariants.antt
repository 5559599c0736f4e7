use Rattle.box_geo.specs.declared.limits.TheConstants.{MAX_ATOMS}
use Rattle.lattice_fill.specs.Points.{inside_of_row}
use Rattle.lattice_fill.proofs.PassLemmas.{Passed}
use Rattle.lattice_fill.proofs.lattice.Lattice.push_layer.Given as goal

abbrev pub invariant-loop-n : goal.invariant-loop-n
invariant-loop-n l = Passed (inside_of_row l.self.style l.self.spacings l.cell.sides l.z) l.rows.first l.rows.count l.n MAX_ATOMS l.fn.points l.points
