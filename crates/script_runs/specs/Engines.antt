-- What the engine of a run has from settings.
use Rattle.std.specs.Prelude.{◌≡◌, ℕ, ℤ, pos, ◌+ℤ◌, true, unsigned_abs, None, IsSome, length}
use Rattle.meaning.specs.declared.force.Force.{Force}
use Rattle.meaning.specs.declared.settings.Body.{Body}
use Rattle.meaning.specs.declared.settings.Settings.{Settings}
use Rattle.meaning.specs.MassesGroups.{are_massive}
use Rattle.meaning.specs.Pairs.{reach_of}
use Rattle.pair_lj.specs.Pairs.{are_all_had}
use Rattle.pair_lj.specs.Table.{IsFinished, Table}
use Rattle.serial_step.specs.Rebuild.{positions}
use Rattle.serial_step.specs.Room.{edge_too_small}
use Rattle.step_engine.specs.Engine.{World}
use Rattle.step_engine.specs.Ranges.{AreRules, IsState}

-- a finished table of so many types has the pairs that are set
pub record IsTableOf (kinds : ℕ) (force : Force) (table : Table) : Type 0 where
  pub finished : IsFinished table
  pub kinds_are : table.kinds ≡ kinds
  pub pairs_are : table.pairs ≡ force.pairs

-- an engine that is new stands in this body, under these forces and timestep
pub record IsEngineOf (force : Force) (dt : ℤ) (kinds : ℕ) (b : Body) (w : World) : Type 0 where
  pub rules : AreRules w.rules
  pub state : IsState w.rules w.state
  pub table : IsTableOf kinds force w.rules.field.pairs
  pub sides : w.rules.cell.sides ≡ b.sides
  pub timestep : w.rules.dt ≡ dt
  pub mass : w.rules.mass ≡ b.mass
  pub skin : unsigned_abs w.rules.skin ≡ unsigned_abs force.skin
  pub reach : unsigned_abs w.rules.field.rcmax ≡ reach_of force
  pub step : w.state.step ≡ b.step
  pub atoms : w.state.atoms ≡ b.atoms
  pub references : w.state.references ≡ positions w.state.atoms
  pub builds : w.state.builds ≡ 0
  pub bonds : w.bonds ≡ b.bonds
  pub angles : w.angles ≡ b.angles

-- nothing refuses a run: all that it rests on is set, and each edge has room
pub record IsReady (s : Settings) (b : Body) : Type 0 where
  pub style : IsSome s.force.pair_style
  pub massive : are_massive b.mass ≡ true
  pub set : are_all_had (length b.mass) s.force.pairs ≡ true
  pub room : edge_too_small b.sides (pos (reach_of s.force) +ℤ s.force.skin) ≡ None
