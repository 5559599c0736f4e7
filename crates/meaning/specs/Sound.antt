-- What the numbers of a state keep to.
use Rattle.std.specs.Prelude.{◌≡◌, ◌≤◌, ◌⊎◌, ◌≤ℤ◌, ℕ, ℤ, pos, unsigned_abs, IfSome, IsTrue, [], length}
use Rattle.std.specs.List.{All}
use Rattle.box_geo.specs.declared.atoms.Atom.{Atom}
use Rattle.box_geo.specs.declared.limits.TheConstants.{MAX_ATOMS, MAX_CUTOFF, MAX_FORCE, MAX_ID, MAX_IMAGE, MAX_KINDS, MAX_MASS, MAX_SKIN, MAX_SPEED, MAX_STEP, MAX_TIMESTEP, MIN_MASS}
use Rattle.box_geo.specs.declared.sim_box.Sides.{Sides}
use Rattle.box_geo.specs.Ids.{Rises}
use Rattle.box_geo.specs.Sides.{IsInside, IsSound as IsSoundSides, IsWithin}
use Rattle.command_words.specs.declared.limits.TheConstants.{MAX_DENSITY, MIN_DENSITY}
use Rattle.command_words.specs.Limits.{IsCutoff}
use Rattle.meaning.specs.declared.force.Force.{Force}
use Rattle.meaning.specs.declared.settings.Body.{Body}
use Rattle.meaning.specs.declared.settings.Settings.{Settings}
use Rattle.meaning.specs.declared.setup.Setup.{Setup}
use Rattle.meaning.specs.MassesGroups.{ids_of}
use Rattle.box_geo.specs.declared.styles.AtomStyle.TheVariants.{Atomic}
use Rattle.meaning.specs.declared.setup.LatticeChoice.{LatticeChoice}
use Rattle.meaning.specs.Setup.{goes_together}
use Rattle.pair_lj.specs.Pairs.{IsSoundPair}

-- a density within its limits
abbrev pub IsSoundLattice : LatticeChoice → Type 0
IsSoundLattice l = (MIN_DENSITY ≤ℤ l.density) × (l.density ≤ℤ MAX_DENSITY)

-- two or three dimensions, z periodic in two, and a timestep within its limit. Atoms with bonds are not built yet.
pub record IsSoundSetup (s : Setup) : Type 0 where
  pub style : s.style ≡ Atomic
  pub lattice : IfSome s.lattice IsSoundLattice
  pub dim : (s.dim ≡ 2) ⊎ (s.dim ≡ 3)
  pub together : IsTrue (goes_together s.dim s.periodic)
  pub slow : pos 0 ≤ℤ s.timestep
  pub quick : s.timestep ≤ℤ MAX_TIMESTEP

pub record IsSoundForce (f : Force) : Type 0 where
  pub style : IfSome f.pair_style IsCutoff
  pub pairs : All IsSoundPair f.pairs
  pub comm_low : pos 0 ≤ℤ f.comm_cutoff
  pub comm_high : f.comm_cutoff ≤ℤ MAX_CUTOFF
  pub skin_low : pos 0 ≤ℤ f.skin
  pub skin_high : f.skin ≤ℤ MAX_SKIN

-- a mass within its limits, or 0 where it is not set
abbrev pub IsSoundMass : ℤ → Type 0
IsSoundMass m = (m ≡ pos 0) ⊎ ((MIN_MASS ≤ℤ m) × (m ≤ℤ MAX_MASS))

-- an atom inside the box, of a type of the box, with numbers within their limits
pub record IsSoundAtom (s : Sides) (kinds : ℕ) (a : Atom) : Type 0 where
  pub inside : IsInside s a.x
  pub kind_low : 1 ≤ a.kind
  pub kind_high : a.kind ≤ kinds
  pub id_low : 1 ≤ a.id
  pub id_high : a.id ≤ MAX_ID
  pub v : IsWithin (unsigned_abs MAX_SPEED) a.v
  pub f : IsWithin (unsigned_abs MAX_FORCE) a.f
  pub image : IsWithin (unsigned_abs MAX_IMAGE) a.image

pub record IsSoundBody (b : Body) : Type 0 where
  pub step : b.step ≤ MAX_STEP
  pub sides : IsSoundSides b.sides
  pub some : 1 ≤ length b.mass
  pub kinds : length b.mass ≤ MAX_KINDS
  pub mass : All IsSoundMass b.mass
  pub few : length b.atoms ≤ MAX_ATOMS
  pub atoms : All (IsSoundAtom b.sides (length b.mass)) b.atoms
  pub rising : Rises (ids_of b.atoms)
  pub bonds : b.bonds ≡ []
  pub angles : b.angles ≡ []

-- a box has the dimension that was set
abbrev pub IsOfSetup : Setup → Body → Type 0
IsOfSetup s b = b.sides.dim ≡ s.dim

pub record IsSound (s : Settings) : Type 0 where
  pub setup : IsSoundSetup s.setup
  pub force : IsSoundForce s.force
  pub body : IfSome s.body IsSoundBody
  pub dim : IfSome s.body (IsOfSetup s.setup)
