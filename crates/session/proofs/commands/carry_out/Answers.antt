use Rattle.std.proofs.Common.{List, Err, ap, arith, rules}
use Rattle.std.specs.Int.{w64}
use Rattle.std.specs.Int.RustNames.{FitsSigned}
use Rattle.std.proofs.lemmas.Int.{to_z-of_z}
use Rattle.meaning.specs.Commands.{atoms_of_style, fix_of, group_of, carried_out}
use Rattle.meaning.specs.Lattice.{create_atoms, create_box, region}
use Rattle.meaning.specs.MassesGroups.{mass}
use Rattle.meaning.specs.Outcome.{Outcome, done}
use Rattle.meaning.specs.Output.{log}
use Rattle.meaning.specs.Pairs.{pair_coeff, pair_style}
use Rattle.meaning.specs.Session.{clear}
use Rattle.meaning.specs.SystemFiles.{read_data}
use Rattle.meaning.specs.Variables.{variable}
use Rattle.meaning.specs.Velocity.{velocity}
use Rattle.outside.specs.declared.files.File.{File}
use Rattle.meaning.specs.declared.refusal.Refusal.TheVariants.{NotBuilt}
use Rattle.session.proofs.WriteLemmas.{write_counted}
use Rattle.session.proofs.OtherLemmas.{IsOther, others_unbuilt}
use Rattle.session.proofs.ExecuteLemmas.{answers_executes, changes_executes, decides_executes}
use Rattle.session.proofs.commands.carry_out.Goals as goal

pub returns-in-ReadData-clause-does : goal.returns-in-ReadData-clause-does
returns-in-ReadData-clause-does g c = λ (files : List File) told. rw (c.in-ReadData.is, c.on_of-in-ReadData.ensures) (changes_executes (read_data files c.in-ReadData.name c.args.settings.now) c.read_data.result (g.P.Press.seen c.args.press.now).sent c.read_data.new.settings (c.read_data.ensures.changes files told))

pub returns-in-Region-clause-does : goal.returns-in-Region-clause-does
returns-in-Region-clause-does g c = λ (files : List File) told. rw (c.in-Region.is, c.changed.ensures) (answers_executes c.args.settings.now c.add_region.new.settings (region c.in-Region.new c.args.settings.now) c.add_region.result (g.P.Press.seen c.args.press.now).sent c.add_region.ensures.is)

pub returns-in-CreateBox-clause-does : goal.returns-in-CreateBox-clause-does
returns-in-CreateBox-clause-does g c = λ (files : List File) told. rw (c.in-CreateBox.is, c.changed-in-CreateBox.ensures) (answers_executes c.args.settings.now c.create_box.new.settings (create_box c.in-CreateBox.new c.args.settings.now) c.create_box.result (g.P.Press.seen c.args.press.now).sent c.create_box.ensures.is)

pub returns-in-CreateAtoms-clause-does : goal.returns-in-CreateAtoms-clause-does
returns-in-CreateAtoms-clause-does g c = λ (files : List File) told. rw (c.in-CreateAtoms.is, c.changed-in-CreateAtoms.ensures) (answers_executes c.args.settings.now c.create_atoms.new.settings (create_atoms c.in-CreateAtoms.new c.args.settings.now) c.create_atoms.result (g.P.Press.seen c.args.press.now).sent c.create_atoms.ensures.is)

pub returns-in-Mass-clause-does : goal.returns-in-Mass-clause-does
returns-in-Mass-clause-does g c = λ (files : List File) told. rw (c.in-Mass.is, c.changed-in-Mass.ensures) (answers_executes c.args.settings.now c.set_masses.new.settings (mass c.in-Mass.mass c.args.settings.now) c.set_masses.result (g.P.Press.seen c.args.press.now).sent c.set_masses.ensures.is)

pub returns-in-PairStyle-clause-does : goal.returns-in-PairStyle-clause-does
returns-in-PairStyle-clause-does g c =
    λ (files : List File) told.
    let fits : FitsSigned w64 c.in-PairStyle.cutoff = search rules in
    rw (c.in-PairStyle.is, c.decided-in-PairStyle.ensures) (decides_executes c.args.settings.now c.set_pair_style.new.settings (pair_style c.in-PairStyle.cutoff c.args.settings.now) c.set_pair_style.result (g.P.Press.seen c.args.press.now).sent (rw (to_z-of_z w64 c.in-PairStyle.cutoff fits) at c.set_pair_style.ensures.is))

pub returns-in-PairCoeff-clause-does : goal.returns-in-PairCoeff-clause-does
returns-in-PairCoeff-clause-does g c = λ (files : List File) told. rw (c.in-PairCoeff.is, c.changed-in-PairCoeff.ensures) (answers_executes c.args.settings.now c.set_pair_coefficients.new.settings (pair_coeff c.in-PairCoeff.pair c.args.settings.now) c.set_pair_coefficients.result (g.P.Press.seen c.args.press.now).sent c.set_pair_coefficients.ensures.is)

pub returns-in-Fix-clause-does : goal.returns-in-Fix-clause-does
returns-in-Fix-clause-does g c = λ (files : List File) told. rw (c.in-Fix.is, c.on_of-in-Fix.ensures) (changes_executes (fix_of c.in-Fix.fix.style c.in-Fix.fix c.args.settings.now) c.set_fix.result (g.P.Press.seen c.args.press.now).sent c.set_fix.new.settings c.set_fix.ensures.changes)

pub returns-in-Group-clause-does : goal.returns-in-Group-clause-does
returns-in-Group-clause-does g c = λ (files : List File) told. rw (c.in-Group.is, c.on_of-in-Group.ensures) (changes_executes (group_of c.in-Group.change.members c.in-Group.change c.args.settings.now) c.set_group.result (g.P.Press.seen c.args.press.now).sent c.set_group.new.settings c.set_group.ensures.changes)

pub returns-in-Velocity-clause-does : goal.returns-in-Velocity-clause-does
returns-in-Velocity-clause-does g c = λ (files : List File) told. rw (c.in-Velocity.is, c.changed-in-Velocity.ensures) (answers_executes c.args.settings.now c.change_velocities.new.settings (velocity c.in-Velocity.change c.args.settings.now) c.change_velocities.result (g.P.Press.seen c.args.press.now).sent c.change_velocities.ensures.is)

pub returns-in-Log-clause-does : goal.returns-in-Log-clause-does
returns-in-Log-clause-does g c = λ (files : List File) told. rw (c.in-Log.is, c.changed-in-Log.ensures) (answers_executes c.args.settings.now c.set_log.new.settings (log c.in-Log.name c.args.settings.now) c.set_log.result (g.P.Press.seen c.args.press.now).sent c.set_log.ensures.answers)

pub returns-in-Variable-clause-does : goal.returns-in-Variable-clause-does
returns-in-Variable-clause-does g c = λ (files : List File) told. rw (c.in-Variable.is, c.on_of-in-Variable.ensures) (changes_executes (variable c.in-Variable.variable c.args.settings.now) c.set_variable.result (g.P.Press.seen c.args.press.now).sent c.set_variable.new.settings c.set_variable.ensures.changes)

pub returns-in-AtomStyle-clause-does : goal.returns-in-AtomStyle-clause-does
returns-in-AtomStyle-clause-does g c = λ (files : List File) told. rw (c.in-AtomStyle.is, c.on_of.ensures) (changes_executes (atoms_of_style c.in-AtomStyle.style c.args.settings.now) c.set_style.result (g.P.Press.seen c.args.press.now).sent c.set_style.new.settings c.set_style.ensures.changes)

pub returns-in-Clear-clause-does : goal.returns-in-Clear-clause-does
returns-in-Clear-clause-does g c = λ (files : List File) told. rw (c.in-Clear.is, c.on_of-in-Clear.ensures) (changes_executes (done (clear c.args.settings.now)) c.clear.result (g.P.Press.seen c.args.press.now).sent c.clear.new.settings c.clear.ensures.changes)

pub returns-in-WriteData-clause-counted : goal.returns-in-WriteData-clause-counted
returns-in-WriteData-clause-counted g c = λ (files : List File) told. rw c.in-WriteData.is (write_counted c.in-WriteData.name c.args.settings.now c.on_of-in-WriteData.result c.args.steps.now)

pub returns-clause-does : goal.returns-clause-does
returns-clause-does g c =
    λ (files : List File) told.
    let other : IsOther c.args.command = record { units_not = c.in_default.not-Units; dimension_not = c.in_default.not-Dimension; boundary_not = c.in_default.not-Boundary; atom_style_not = c.in_default.not-AtomStyle; processors_not = c.in_default.not-Processors; newton_not = c.in_default.not-Newton; atom_modify_not = c.in_default.not-AtomModify; echo_not = c.in_default.not-Echo; lattice_not = c.in_default.not-Lattice; region_not = c.in_default.not-Region; create_box_not = c.in_default.not-CreateBox; create_atoms_not = c.in_default.not-CreateAtoms; read_data_not = c.in_default.not-ReadData; write_data_not = c.in_default.not-WriteData; mass_not = c.in_default.not-Mass; group_not = c.in_default.not-Group; pair_style_not = c.in_default.not-PairStyle; pair_coeff_not = c.in_default.not-PairCoeff; neighbor_not = c.in_default.not-Neighbor; neigh_modify_not = c.in_default.not-NeighModify; comm_modify_not = c.in_default.not-CommModify; velocity_not = c.in_default.not-Velocity; fix_not = c.in_default.not-Fix; unfix_not = c.in_default.not-Unfix; thermo_not = c.in_default.not-Thermo; run_not = c.in_default.not-Run; timestep_not = c.in_default.not-Timestep; reset_timestep_not = c.in_default.not-ResetTimestep; print_not = c.in_default.not-Print; log_not = c.in_default.not-Log; variable_not = c.in_default.not-Variable; clear_not = c.in_default.not-Clear; quit_not = c.in_default.not-Quit } in
    changes_executes (carried_out files c.args.command c.args.settings.now) (Err NotBuilt) (g.P.Press.seen c.args.press.now).sent c.args.settings.now (others_unbuilt files c.args.command c.args.settings.now other)

pub returns-clause-counted : goal.returns-clause-counted
returns-clause-counted g c =
    λ (files : List File) told.
    let other : IsOther c.args.command = record { units_not = c.in_default.not-Units; dimension_not = c.in_default.not-Dimension; boundary_not = c.in_default.not-Boundary; atom_style_not = c.in_default.not-AtomStyle; processors_not = c.in_default.not-Processors; newton_not = c.in_default.not-Newton; atom_modify_not = c.in_default.not-AtomModify; echo_not = c.in_default.not-Echo; lattice_not = c.in_default.not-Lattice; region_not = c.in_default.not-Region; create_box_not = c.in_default.not-CreateBox; create_atoms_not = c.in_default.not-CreateAtoms; read_data_not = c.in_default.not-ReadData; write_data_not = c.in_default.not-WriteData; mass_not = c.in_default.not-Mass; group_not = c.in_default.not-Group; pair_style_not = c.in_default.not-PairStyle; pair_coeff_not = c.in_default.not-PairCoeff; neighbor_not = c.in_default.not-Neighbor; neigh_modify_not = c.in_default.not-NeighModify; comm_modify_not = c.in_default.not-CommModify; velocity_not = c.in_default.not-Velocity; fix_not = c.in_default.not-Fix; unfix_not = c.in_default.not-Unfix; thermo_not = c.in_default.not-Thermo; run_not = c.in_default.not-Run; timestep_not = c.in_default.not-Timestep; reset_timestep_not = c.in_default.not-ResetTimestep; print_not = c.in_default.not-Print; log_not = c.in_default.not-Log; variable_not = c.in_default.not-Variable; clear_not = c.in_default.not-Clear; quit_not = c.in_default.not-Quit } in
    let none = ap (λ (o : Outcome). o.pairs) (others_unbuilt files c.args.command c.args.settings.now other) in
    record { few = omega (arith, none); exact = tt }
