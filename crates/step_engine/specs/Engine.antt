-- What contracts see of an engine: what stands still in a run, and the state of the serial step.
use Rattle.std.specs.Prelude.{◌≡◌, ◌<◌, ℕ, ℤ, pos, unsigned_abs, List}
use Rattle.box_geo.specs.declared.atoms.Angle.{Angle}
use Rattle.box_geo.specs.declared.atoms.Atom.{Atom}
use Rattle.box_geo.specs.declared.atoms.Bond.{Bond}
use Rattle.box_geo.specs.declared.atoms.System.{System}
use Rattle.box_geo.specs.declared.fault.FaultKey.{FaultKey}
use Rattle.box_geo.specs.Fault.{FitsWord, key_word, no_fault}
use Rattle.fix_list.specs.declared.fixes.NamedFix.{NamedFix}
use Rattle.fix_list.specs.Fixes.{moves}
use Rattle.serial_step.specs.Forces.{field_of}
use Rattle.serial_step.specs.Rebuild.{positions}
use Rattle.serial_step.specs.Step.{Setting, State, Sums}
use Rattle.step_engine.specs.declared.rules.Rules.{Rules}
use Rattle.step_engine.specs.declared.rules.ForceField.{ForceField}
use Rattle.step_engine.specs.declared.tally.Tally.{Tally}

-- an engine: what stands still, the state, and what binds atoms
pub record World : Type 0 where
  pub rules : Rules
  pub state : State
  pub bonds : List Bond
  pub angles : List Angle

-- the setting of the serial step, with the fixes that move atoms
abbrev pub setting_of : Rules → List NamedFix → Setting
setting_of r fixes = record {
  field = field_of r.field.pairs.pairs;
  sides = r.cell.sides;
  dt = r.dt;
  mass = r.mass;
  skin = unsigned_abs r.skin;
  cutoff = unsigned_abs r.field.rcmax;
  moves = moves fixes;
}

-- the engine of a system: the references are its positions, and nothing was built again
abbrev pub rules_of : System → ForceField → ℤ → Rules
rules_of system field skin = record { field = field; cell = system.cell; dt = system.dt; mass = system.mass; skin = skin }

abbrev pub first_state : System → State
first_state system = record { step = system.step; atoms = system.atoms; references = positions system.atoms; builds = 0 }

abbrev pub world_of : System → ForceField → ℤ → World
world_of system field skin = record { rules = rules_of system field skin; state = first_state system; bonds = system.bonds; angles = system.angles }

-- the system of an engine
abbrev pub system_of : World → System
system_of w = record { step = w.state.step; dt = w.rules.dt; cell = w.rules.cell; mass = w.rules.mass; atoms = w.state.atoms; bonds = w.bonds; angles = w.angles }

-- an engine with other atoms
abbrev pub with_atoms : World → List Atom → World
with_atoms w atoms = record w { state = record w.state { atoms = atoms } }

-- the sums of an evaluation; there are no bonds or angles yet
abbrev pub tally_of : Sums → Tally
tally_of s = record { pair = s.pair; bond = pos 0; angle = pos 0; virial = s.virial }

-- the key of this word, which is a fault
abbrev pub IsKeyOf : ℕ → FaultKey → Type 0
IsKeyOf word key = (key_word key ≡ word) × FitsWord key × (word < no_fault)
