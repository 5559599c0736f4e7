-- The ranges that the numbers of a run keep to.
use Rattle.std.specs.Prelude.{◌≡◌, ◌+◌, ◌-◌, ◌*◌, ◌^◌, ◌≤◌, ℕ, ℤ, pos, ◌+ℤ◌, ◌<ℤ◌, ◌≤ℤ◌, unsigned_abs, None, List, length, slice_index_or, All}
use Rattle.box_geo.specs.declared.atoms.Atom.{Atom}
use Rattle.box_geo.specs.declared.limits.TheConstants.{MAX_ATOMS, MAX_CUTOFF, MAX_FORCE, MAX_ID, MAX_IMAGE, MAX_MASS, MAX_SKIN, MAX_SPEED, MAX_STEP, MAX_TIMESTEP, MIN_MASS}
use Rattle.box_geo.specs.declared.sim_box.Sides.{Sides}
use Rattle.box_geo.specs.Sides.{IsInside, edge, x_of, y_of, z_of}
use Rattle.pair_lj.specs.Table.{IsFinished, IsType, Table}
use Rattle.serial_step.specs.Forces.{field_of}
use Rattle.serial_step.specs.Pairs.{IsReach}
use Rattle.serial_step.specs.Room.{edge_too_small}
use Rattle.serial_step.specs.Step.{State}
use Rattle.step_engine.specs.declared.rules.Rules.{Rules}
use Rattle.step_engine.specs.declared.rules.ForceField.{ForceField}
use Rattle.step_engine.specs.declared.tally.Tally.{Tally}

-- each component of a vector is of magnitude at most the bound
abbrev pub IsWithin : ℕ → List ℤ → Type 0
IsWithin bound v = (unsigned_abs (x_of v) ≤ bound) × (unsigned_abs (y_of v) ≤ bound) × (unsigned_abs (z_of v) ≤ bound)

-- a type of the table that has a mass
abbrev pub HasMass : List ℤ → ℕ → Type 0
HasMass mass kind = (1 ≤ kind) × (kind ≤ length mass) × (MIN_MASS ≤ℤ slice_index_or mass (kind - 1) (pos 1)) × (slice_index_or mass (kind - 1) (pos 1) ≤ℤ MAX_MASS)

-- what pair terms ask of an atom: a position inside the box, a type of the table, an id within the limits
pub record IsPlaced (pairs : Table) (s : Sides) (a : Atom) : Type 0 where
  pub inside : IsInside s a.x
  pub kind : IsType pairs a.kind
  pub id : a.id ≤ MAX_ID

-- what a step asks of an atom besides
pub record IsMovable (mass : List ℤ) (a : Atom) : Type 0 where
  pub massive : HasMass mass a.kind
  pub v : IsWithin (unsigned_abs MAX_SPEED) a.v
  pub f : IsWithin (unsigned_abs MAX_FORCE) a.f
  pub image : IsWithin (unsigned_abs MAX_IMAGE) a.image

-- a force field: a finished table, none of whose cutoffs is beyond the greatest
pub record IsForceField (field : ForceField) : Type 0 where
  pub finished : IsFinished field.pairs
  pub low : pos 0 <ℤ field.rcmax
  pub high : field.rcmax ≤ℤ MAX_CUTOFF
  pub reach : IsReach (field_of field.pairs.pairs) (unsigned_abs field.rcmax)

pub record IsSkin (skin : ℤ) : Type 0 where
  pub low : pos 0 ≤ℤ skin
  pub high : skin ≤ℤ MAX_SKIN

pub record IsTimestep (dt : ℤ) : Type 0 where
  pub low : pos 0 ≤ℤ dt
  pub high : dt ≤ℤ MAX_TIMESTEP

-- what stands still in a run keeps to its ranges, and each edge has room for the reach
pub record AreRules (r : Rules) : Type 0 where
  pub field : IsForceField r.field
  pub dt : IsTimestep r.dt
  pub skin : IsSkin r.skin
  pub room : edge_too_small r.cell.sides (r.field.rcmax +ℤ r.skin) ≡ None

-- so does each atom
pub record AreAtoms (r : Rules) (atoms : List Atom) : Type 0 where
  pub few : length atoms ≤ MAX_ATOMS
  pub placed : All (IsPlaced r.field.pairs r.cell.sides) atoms
  pub movable : All (IsMovable r.mass) atoms

-- and the state: a reference for each atom, inside the box, and no more builds than steps
pub record IsState (r : Rules) (s : State) : Type 0 where
  pub step : s.step ≤ MAX_STEP
  pub atoms : AreAtoms r s.atoms
  pub references : length s.references ≡ length s.atoms
  pub inside : All (IsInside r.cell.sides) s.references
  pub builds : s.builds ≤ s.step

-- the sums of an evaluation over so many atoms in a box are far within 128 bits
pub record IsSmall (s : Sides) (n : ℕ) (t : Tally) : Type 0 where
  pub pair : 2 * unsigned_abs t.pair ≤ 2 ^ 58 * (n * n)
  pub virial : 2 * unsigned_abs t.virial ≤ 2 ^ 42 * (unsigned_abs (edge s.x) + unsigned_abs (edge s.y) + unsigned_abs (edge s.z)) * (n * n)
  pub reached : 2 * unsigned_abs t.virial ≤ 3 * 2 ^ 70 * (n * n)
