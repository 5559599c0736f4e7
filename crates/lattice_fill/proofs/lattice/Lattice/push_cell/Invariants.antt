use Rattle.box_geo.specs.declared.limits.TheConstants.{MAX_ATOMS}
use Rattle.lattice_fill.specs.Points.{is_inside, point_of}
use Rattle.lattice_fill.proofs.PassLemmas.{Kept}
use Rattle.lattice_fill.proofs.lattice.Lattice.push_cell.Given as goal

abbrev pub invariant-loop-quarters : goal.invariant-loop-quarters
invariant-loop-quarters l = Kept (is_inside l.cell.sides) (point_of l.self.spacings record { x = l.x; y = l.y; z = l.z }) l.quarters-items l.quarters-index MAX_ATOMS l.fn.points l.points
