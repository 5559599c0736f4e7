-- The limits that the numbers of a command keep to, as it was read.
use Rattle.std.specs.Prelude.{◌≡◌, ◌≤◌, ◌⊎◌, ◌*◌, ◌%◌, ◌≤ℤ◌, ◌<ℤ◌, ℕ, ℤ, pos, neg_ℤ, All, IfSome}
use Rattle.box_geo.specs.declared.limits.TheConstants.{FULL_WEIGHT, MAX_CUTOFF, MAX_EPSILON, MAX_FORCE, MAX_KINDS, MAX_MASS, MAX_REST_LENGTH, MAX_SIGMA, MAX_SKIN, MAX_STEP, MAX_STIFFNESS, MAX_TEMPERATURE, MAX_TIMESTEP, MIN_MASS}
use Rattle.command_words.specs.declared.bonds.AngleCoeff.{AngleCoeff}
use Rattle.command_words.specs.declared.bonds.BondCoeff.{BondCoeff}
use Rattle.command_words.specs.declared.command.Command.{Command}
use Rattle.command_words.specs.declared.command.Command.TheVariants as command
use Rattle.command_words.specs.declared.fixes.FixStyle.{FixStyle}
use Rattle.command_words.specs.declared.fixes.FixStyle.TheVariants as style
use Rattle.command_words.specs.declared.limits.TheConstants.{MAX_DENSITY, MAX_REPEAT, MAX_SEED, MIN_DENSITY}
use Rattle.command_words.specs.declared.pairs.PairCoeff.{PairCoeff}
use Rattle.command_words.specs.declared.velocity.Draws.{Draws}
use Rattle.command_words.specs.declared.velocity.VelocityAction.{VelocityAction}
use Rattle.command_words.specs.declared.velocity.VelocityAction.TheVariants as act

-- a number from the least to the greatest, both allowed
abbrev pub IsBetween : ℤ → ℤ → ℤ → Type 0
IsBetween low high n = (low ≤ℤ n) × (n ≤ℤ high)

-- a type of atoms
abbrev pub IsKind : ℕ → Type 0
IsKind kind = (1 ≤ kind) × (kind ≤ MAX_KINDS)

-- how many types of atoms, of bonds and of angles a box has; at least one of atoms
pub record AreTypeCounts (atoms bonds angles : ℕ) : Type 0 where
  pub kinds : IsKind atoms
  pub bond_kinds : bonds ≤ MAX_KINDS
  pub angle_kinds : angles ≤ MAX_KINDS

-- a cutoff is above 0
pub record IsCutoff (cutoff : ℤ) : Type 0 where
  pub low : pos 0 <ℤ cutoff
  pub high : cutoff ≤ℤ MAX_CUTOFF

-- the types of a pair begin at 1, and its energy, size and cutoff are within their limits
pub record AreCoefficients (c : PairCoeff) : Type 0 where
  pub first : 1 ≤ c.first.first
  pub second : 1 ≤ c.second.first
  pub epsilon : IsBetween (pos 0) MAX_EPSILON c.epsilon
  pub sigma_low : pos 0 <ℤ c.sigma
  pub sigma_high : c.sigma ≤ℤ MAX_SIGMA
  pub cutoff : IfSome c.cutoff IsCutoff

-- the weight of pairs that are some bonds apart
abbrev pub IsWeight : ℤ → Type 0
IsWeight w = IsBetween (pos 0) FULL_WEIGHT w

-- the types of bonds begin at 1, and their stiffness and rest length are within their limits
pub record AreBondCoefficients (c : BondCoeff) : Type 0 where
  pub first : 1 ≤ c.kinds.first
  pub stiffness : IsBetween (pos 0) MAX_STIFFNESS c.stiffness
  pub rest : IsBetween (pos 0) MAX_REST_LENGTH c.length

-- the types of angles begin at 1, and their stiffness is within its limits
pub record AreAngleCoefficients (c : AngleCoeff) : Type 0 where
  pub first : 1 ≤ c.kinds.first
  pub stiffness : IsBetween (pos 0) MAX_STIFFNESS c.stiffness

-- a temperature that velocities are drawn for or scaled to
abbrev pub IsTemperature : ℤ → Type 0
IsTemperature t = IsBetween (pos 0) MAX_TEMPERATURE t

-- velocities are drawn for a temperature, by a seed
pub record AreDraws (d : Draws) : Type 0 where
  pub temperature : IsTemperature d.temperature
  pub seed_low : 1 ≤ d.seed
  pub seed_high : d.seed ≤ MAX_SEED

-- what becomes of velocities: the numbers with which they are drawn, or the temperature that they are scaled to
abbrev pub ActionKeepsLimits : VelocityAction → Type 0
ActionKeepsLimits (act.Create d) = AreDraws d
ActionKeepsLimits (act.Scale t) = IsTemperature t
ActionKeepsLimits _ = Unit {0}

-- a component of a force that a fix sets or adds
abbrev pub IsForce : ℤ → Type 0
IsForce f = IsBetween (neg_ℤ MAX_FORCE) MAX_FORCE f

-- the steps from one sample to the next, the samples of one average, and the steps from one average to the next:
-- these are a multiple of the steps between samples, and have room for the samples
pub record ArePeriods (every repeat freq : ℕ) : Type 0 where
  pub every_low : 1 ≤ every
  pub every_high : every ≤ MAX_STEP
  pub repeat_low : 1 ≤ repeat
  pub repeat_high : repeat ≤ MAX_REPEAT
  pub freq_low : 1 ≤ freq
  pub freq_high : freq ≤ MAX_STEP
  pub multiple : freq % every ≡ 0
  pub room : every * repeat ≤ freq

-- what a fix does: the components that it sets or adds, or the periods of its averages
abbrev pub StyleKeepsLimits : FixStyle → Type 0
StyleKeepsLimits (style.SetForce fs) = All (λ f. IfSome f IsForce) fs
StyleKeepsLimits (style.AddForce fs) = All IsForce fs
StyleKeepsLimits (style.Average a) = ArePeriods a.every a.repeat a.freq
StyleKeepsLimits _ = Unit {0}

-- the numbers of a command keep to their limits
abbrev pub KeepsLimits : Command → Type 0
KeepsLimits (command.Dimension dim) = (dim ≡ 2) ⊎ (dim ≡ 3)
KeepsLimits (command.Lattice l) = IsBetween MIN_DENSITY MAX_DENSITY l.density
KeepsLimits (command.CreateBox b) = AreTypeCounts b.kinds b.bond_kinds b.angle_kinds
KeepsLimits (command.CreateAtoms c) = IsKind c.kind
KeepsLimits (command.Mass m) = (1 ≤ m.kinds.first) × IsBetween MIN_MASS MAX_MASS m.mass
KeepsLimits (command.PairStyle cutoff) = IsCutoff cutoff
KeepsLimits (command.PairCoeff c) = AreCoefficients c
KeepsLimits (command.SpecialBonds ws) = All IsWeight ws
KeepsLimits (command.BondCoeff c) = AreBondCoefficients c
KeepsLimits (command.AngleCoeff c) = AreAngleCoefficients c
KeepsLimits (command.Neighbor skin) = IsBetween (pos 0) MAX_SKIN skin
KeepsLimits (command.CommModify cutoff) = IsBetween (pos 0) MAX_CUTOFF cutoff
KeepsLimits (command.Velocity v) = ActionKeepsLimits v.action
KeepsLimits (command.Fix f) = StyleKeepsLimits f.style
KeepsLimits (command.Run r) = r.steps ≤ MAX_STEP
KeepsLimits (command.Timestep dt) = IsBetween (pos 0) MAX_TIMESTEP dt
KeepsLimits (command.ResetTimestep step) = step ≤ MAX_STEP
KeepsLimits _ = Unit {0}
