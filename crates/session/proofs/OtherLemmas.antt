-- Commands that are not built.
use Rattle.std.proofs.Common.{◌≡◌, Bool, ℕ, ℤ, Option, List, refl}
use Rattle.box_geo.specs.declared.styles.AtomStyle.{AtomStyle}
use Rattle.command_words.specs.declared.command.Command.{Command}
use Rattle.command_words.specs.declared.command.Command.TheVariants as command
use Rattle.command_words.specs.declared.fixes.NewFix.{NewFix}
use Rattle.command_words.specs.declared.lattice.Creation.{Creation}
use Rattle.command_words.specs.declared.lattice.LatticeSetting.{LatticeSetting}
use Rattle.command_words.specs.declared.lattice.NewBox.{NewBox}
use Rattle.command_words.specs.declared.lattice.NewRegion.{NewRegion}
use Rattle.command_words.specs.declared.masses_groups.GroupChange.{GroupChange}
use Rattle.command_words.specs.declared.masses_groups.MassSetting.{MassSetting}
use Rattle.command_words.specs.declared.pairs.PairCoeff.{PairCoeff}
use Rattle.command_words.specs.declared.runs.Run.{Run}
use Rattle.command_words.specs.declared.variables.NewVariable.{NewVariable}
use Rattle.command_words.specs.declared.velocity.VelocityChange.{VelocityChange}
use Rattle.meaning.specs.declared.settings.Settings.{Settings}
use Rattle.meaning.specs.Commands.{carried_out}
use Rattle.meaning.specs.Outcome.{silent, unbuilt}
use Rattle.outside.specs.declared.files.File.{File}

-- a command is none of those that are built
pub record IsOther (k : Command) : Type 0 where
  pub units_not : k ≡ command.Units → ⊥
  pub dimension_not : (x : ℕ) → k ≡ command.Dimension x → ⊥
  pub boundary_not : (x : List Bool) → k ≡ command.Boundary x → ⊥
  pub atom_style_not : (x : AtomStyle) → k ≡ command.AtomStyle x → ⊥
  pub processors_not : (x : List ℕ) → k ≡ command.Processors x → ⊥
  pub newton_not : k ≡ command.Newton → ⊥
  pub atom_modify_not : k ≡ command.AtomModify → ⊥
  pub echo_not : k ≡ command.Echo → ⊥
  pub lattice_not : (x : LatticeSetting) → k ≡ command.Lattice x → ⊥
  pub region_not : (x : NewRegion) → k ≡ command.Region x → ⊥
  pub create_box_not : (x : NewBox) → k ≡ command.CreateBox x → ⊥
  pub create_atoms_not : (x : Creation) → k ≡ command.CreateAtoms x → ⊥
  pub read_data_not : (x : List ℕ) → k ≡ command.ReadData x → ⊥
  pub write_data_not : (x : List ℕ) → k ≡ command.WriteData x → ⊥
  pub mass_not : (x : MassSetting) → k ≡ command.Mass x → ⊥
  pub group_not : (x : GroupChange) → k ≡ command.Group x → ⊥
  pub pair_style_not : (x : ℤ) → k ≡ command.PairStyle x → ⊥
  pub pair_coeff_not : (x : PairCoeff) → k ≡ command.PairCoeff x → ⊥
  pub neighbor_not : (x : ℤ) → k ≡ command.Neighbor x → ⊥
  pub neigh_modify_not : k ≡ command.NeighModify → ⊥
  pub comm_modify_not : (x : ℤ) → k ≡ command.CommModify x → ⊥
  pub velocity_not : (x : VelocityChange) → k ≡ command.Velocity x → ⊥
  pub fix_not : (x : NewFix) → k ≡ command.Fix x → ⊥
  pub unfix_not : (x : List ℕ) → k ≡ command.Unfix x → ⊥
  pub thermo_not : (x : ℕ) → k ≡ command.Thermo x → ⊥
  pub run_not : (x : Run) → k ≡ command.Run x → ⊥
  pub timestep_not : (x : ℤ) → k ≡ command.Timestep x → ⊥
  pub reset_timestep_not : (x : ℕ) → k ≡ command.ResetTimestep x → ⊥
  pub print_not : (x : List ℕ) → k ≡ command.Print x → ⊥
  pub log_not : (x : Option (List ℕ)) → k ≡ command.Log x → ⊥
  pub variable_not : (x : NewVariable) → k ≡ command.Variable x → ⊥
  pub clear_not : k ≡ command.Clear → ⊥
  pub quit_not : k ≡ command.Quit → ⊥

-- it is not built
pub others_unbuilt : (files : List File) (k : Command) (s : Settings) → IsOther k → carried_out files k s ≡ silent s unbuilt
others_unbuilt files command.Units s h = absurd (h.units_not refl)
others_unbuilt files (command.Dimension x) s h = absurd (h.dimension_not x refl)
others_unbuilt files (command.Boundary x) s h = absurd (h.boundary_not x refl)
others_unbuilt files (command.AtomStyle x) s h = absurd (h.atom_style_not x refl)
others_unbuilt files (command.Processors x) s h = absurd (h.processors_not x refl)
others_unbuilt files command.Newton s h = absurd (h.newton_not refl)
others_unbuilt files command.AtomModify s h = absurd (h.atom_modify_not refl)
others_unbuilt files command.Echo s h = absurd (h.echo_not refl)
others_unbuilt files (command.Lattice x) s h = absurd (h.lattice_not x refl)
others_unbuilt files (command.Region x) s h = absurd (h.region_not x refl)
others_unbuilt files (command.CreateBox x) s h = absurd (h.create_box_not x refl)
others_unbuilt files (command.CreateAtoms x) s h = absurd (h.create_atoms_not x refl)
others_unbuilt files (command.ReadData x) s h = absurd (h.read_data_not x refl)
others_unbuilt files (command.WriteData x) s h = absurd (h.write_data_not x refl)
others_unbuilt files (command.Restart x) s h = refl
others_unbuilt files (command.WriteRestart x) s h = refl
others_unbuilt files (command.ReadRestart x) s h = refl
others_unbuilt files (command.Mass x) s h = absurd (h.mass_not x refl)
others_unbuilt files (command.Group x) s h = absurd (h.group_not x refl)
others_unbuilt files (command.PairStyle x) s h = absurd (h.pair_style_not x refl)
others_unbuilt files (command.PairCoeff x) s h = absurd (h.pair_coeff_not x refl)
others_unbuilt files (command.PairModify x) s h = refl
others_unbuilt files (command.SpecialBonds x) s h = refl
others_unbuilt files command.BondStyle s h = refl
others_unbuilt files (command.BondCoeff x) s h = refl
others_unbuilt files command.AngleStyle s h = refl
others_unbuilt files (command.AngleCoeff x) s h = refl
others_unbuilt files (command.Neighbor x) s h = absurd (h.neighbor_not x refl)
others_unbuilt files command.NeighModify s h = absurd (h.neigh_modify_not refl)
others_unbuilt files (command.CommModify x) s h = absurd (h.comm_modify_not x refl)
others_unbuilt files (command.Velocity x) s h = absurd (h.velocity_not x refl)
others_unbuilt files (command.Fix x) s h = absurd (h.fix_not x refl)
others_unbuilt files (command.Unfix x) s h = absurd (h.unfix_not x refl)
others_unbuilt files (command.Compute x) s h = refl
others_unbuilt files (command.Uncompute x) s h = refl
others_unbuilt files (command.Thermo x) s h = absurd (h.thermo_not x refl)
others_unbuilt files (command.ThermoStyle x) s h = refl
others_unbuilt files (command.ThermoModify x) s h = refl
others_unbuilt files (command.Dump x) s h = refl
others_unbuilt files (command.DumpModify x) s h = refl
others_unbuilt files (command.Undump x) s h = refl
others_unbuilt files (command.Run x) s h = absurd (h.run_not x refl)
others_unbuilt files (command.Timestep x) s h = absurd (h.timestep_not x refl)
others_unbuilt files (command.ResetTimestep x) s h = absurd (h.reset_timestep_not x refl)
others_unbuilt files (command.Print x) s h = absurd (h.print_not x refl)
others_unbuilt files (command.Log x) s h = absurd (h.log_not x refl)
others_unbuilt files (command.Variable x) s h = absurd (h.variable_not x refl)
others_unbuilt files (command.Next x) s h = refl
others_unbuilt files (command.Label x) s h = refl
others_unbuilt files (command.Jump x) s h = refl
others_unbuilt files (command.Include x) s h = refl
others_unbuilt files (command.If x) s h = refl
others_unbuilt files command.Clear s h = absurd (h.clear_not refl)
others_unbuilt files command.Quit s h = absurd (h.quit_not refl)
