-- The sums over pairs of atoms.
use Rattle.std.specs.Prelude.{◌≡◌, ◌*◌, ◌^◌, ◌≤◌, ℕ, ℤ, unsigned_abs, List, map}
use Rattle.box_geo.specs.declared.atoms.Atom.{Atom}
use Rattle.box_geo.specs.declared.sim_box.Sides.{Sides}
use Rattle.pair_forces.specs.declared.totals.PairSums.{PairSums}
use Rattle.serial_step.specs.Forces.{Field, least}
use Rattle.serial_step.specs.Pairs.{energy_between, virial_between, word_between}
use Rattle.sums.specs.Totals.{total}

-- an energy, a virial and the word of a fault are those of some pairs
pub record AreSums (field : Field) (s : Sides) (pairs : List (Atom × Atom)) (e v : ℤ) (w : ℕ) : Type 0 where
  pub energy : e ≡ total (energy_between field s) pairs
  pub virial : v ≡ total (virial_between field s) pairs
  pub fault : w ≡ least (map (word_between field s) pairs)

-- the sums of so many pairs
pub record AreSumsWithin (pairs : ℕ) (sums : PairSums) : Type 0 where
  pub energy : unsigned_abs sums.energy ≤ 2 ^ 60 * pairs
  pub virial : unsigned_abs sums.virial ≤ 2 ^ 72 * pairs
