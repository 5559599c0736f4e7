-- The limits of the whole project as numbers: the one place that tells them apart from their names.
use Rattle.std.specs.Prelude.{◌≡◌, ◌*◌, ◌^◌, ℕ, ℤ, pos}
use Rattle.box_geo.specs.declared.fault.TheConstants.{NO_FAULT}
use Rattle.box_geo.specs.declared.limits.TheConstants.{DEFAULT_SKIN, DEFAULT_TIMESTEP, FULL_WEIGHT, MAX_ANGLES_OF_ATOM, MAX_ATOMS, MAX_BONDS, MAX_BONDS_OF_ATOM, MAX_BOUND, MAX_CUTOFF, MAX_EDGE, MAX_EPSILON, MAX_FILE_NAME_BYTES, MAX_FORCE, MAX_FORMULA_BYTES, MAX_FORMULA_DEPTH, MAX_GROUPS, MAX_ID, MAX_IMAGE, MAX_INCLUDES, MAX_KINDS, MAX_LINES, MAX_MASS, MAX_NAME_BYTES, MAX_POSITION, MAX_RANKS, MAX_REST_LENGTH, MAX_SCRIPT_BYTES, MAX_SIGMA, MAX_SKIN, MAX_SPEED, MAX_STEP, MAX_STIFFNESS, MAX_TEMPERATURE, MAX_TERM_FORCE, MAX_TIMESTEP, MAX_WORKERS, MIN_EDGE, MIN_MASS}

-- a whole number in units of 2^-24
abbrev pub units : ℕ → ℤ
units n = pos (n * 2 ^ 24)

-- atoms and what binds them
pub record AtomLimits : Type 0 where
  pub atoms : MAX_ATOMS ≡ 1048576
  pub bonds : MAX_BONDS ≡ 2097152
  pub ids : MAX_ID ≡ 16777215
  pub kinds : MAX_KINDS ≡ 64
  pub bonds_of_atom : MAX_BONDS_OF_ATOM ≡ 16
  pub angles_of_atom : MAX_ANGLES_OF_ATOM ≡ 32

-- the box, and places in it; the least edge is 2^-6
pub record BoxLimits : Type 0 where
  pub bound : MAX_BOUND ≡ units 1024
  pub least_edge : MIN_EDGE ≡ pos (2 ^ 18)
  pub greatest_edge : MAX_EDGE ≡ units 1024
  pub position : MAX_POSITION ≡ pos (2 ^ 40)
  pub image : MAX_IMAGE ≡ pos (2 ^ 40)

-- pairs, bonds and forces; the skin is 0.3 where none is given
pub record ForceLimits : Type 0 where
  pub cutoff : MAX_CUTOFF ≡ units 16
  pub skin : MAX_SKIN ≡ units 4
  pub default_skin : DEFAULT_SKIN ≡ pos 5033165
  pub epsilon : MAX_EPSILON ≡ units 256
  pub sigma : MAX_SIGMA ≡ units 8
  pub stiffness : MAX_STIFFNESS ≡ units 16384
  pub rest_length : MAX_REST_LENGTH ≡ units 16
  pub weight : FULL_WEIGHT ≡ units 1
  pub term_force : MAX_TERM_FORCE ≡ pos (2 ^ 42)
  pub force : MAX_FORCE ≡ pos (2 ^ 44)

-- motion; the least mass is 2^-10, and the timestep is 0.005 where none is given
pub record MotionLimits : Type 0 where
  pub least_mass : MIN_MASS ≡ pos (2 ^ 14)
  pub greatest_mass : MAX_MASS ≡ units 64
  pub speed : MAX_SPEED ≡ units 256
  pub temperature : MAX_TEMPERATURE ≡ units 1024
  pub timestep : MAX_TIMESTEP ≡ units 1
  pub default_timestep : DEFAULT_TIMESTEP ≡ pos 83886
  pub step : MAX_STEP ≡ 274877906944

-- how a run is shared out, and scripts
pub record ScriptLimits : Type 0 where
  pub groups : MAX_GROUPS ≡ 32
  pub ranks : MAX_RANKS ≡ 512
  pub workers : MAX_WORKERS ≡ 64
  pub lines : MAX_LINES ≡ 1000000
  pub includes : MAX_INCLUDES ≡ 16
  pub formula_depth : MAX_FORMULA_DEPTH ≡ 64
  pub formula_bytes : MAX_FORMULA_BYTES ≡ 4096
  pub script_bytes : MAX_SCRIPT_BYTES ≡ 1048576
  pub name_bytes : MAX_NAME_BYTES ≡ 64
  pub file_name_bytes : MAX_FILE_NAME_BYTES ≡ 255
  pub no_fault : NO_FAULT ≡ 18446744073709551615

pub record AreTheLimits : Type 0 where
  pub of_atoms : AtomLimits
  pub of_the_box : BoxLimits
  pub of_forces : ForceLimits
  pub of_motion : MotionLimits
  pub of_scripts : ScriptLimits
