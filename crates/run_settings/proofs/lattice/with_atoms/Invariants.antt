use Rattle.std.proofs.Common.{◌≡◌, ◌+◌, ◌++◌, drop}
use Rattle.meaning.specs.Lattice.{atoms_at}
use Rattle.run_settings.proofs.lattice.with_atoms.Given as goal

abbrev pub invariant-loop-x : goal.invariant-loop-x
invariant-loop-x l =
    (l.id ≡ l.first + l.x-index)
    × (l.all ++ atoms_at l.kind l.id (drop l.x-index l.points) ≡ l.atoms ++ atoms_at l.kind l.first l.points)
