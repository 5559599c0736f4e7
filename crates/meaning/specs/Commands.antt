-- What each command means. This is the one definition that says which commands are built.
use Rattle.std.specs.Prelude.{Bool, true, false, List, []}
use Rattle.box_geo.specs.declared.styles.AtomStyle.{AtomStyle}
use Rattle.box_geo.specs.declared.styles.AtomStyle.TheVariants.{Atomic}
use Rattle.command_words.specs.declared.command.Command.{Command}
use Rattle.command_words.specs.declared.command.Command.TheVariants as command
use Rattle.command_words.specs.declared.fixes.FixStyle.{FixStyle}
use Rattle.command_words.specs.declared.fixes.FixStyle.TheVariants.{Nve}
use Rattle.command_words.specs.declared.fixes.NewFix.{NewFix}
use Rattle.command_words.specs.declared.masses_groups.GroupChange.{GroupChange}
use Rattle.command_words.specs.declared.masses_groups.Members.{Members}
use Rattle.command_words.specs.declared.masses_groups.Members.TheVariants.{Variable}
use Rattle.meaning.specs.declared.settings.Settings.{Settings}
use Rattle.meaning.specs.Fixes.{fix, unfix}
use Rattle.meaning.specs.Lattice.{create_atoms, create_box, lattice, region}
use Rattle.meaning.specs.MassesGroups.{group, mass}
use Rattle.meaning.specs.Neighbors.{comm_cutoff, neighbor}
use Rattle.meaning.specs.Outcome.{Outcome, Way, answered, done, goes, quits, silent, unbuilt}
use Rattle.meaning.specs.Output.{log, print}
use Rattle.meaning.specs.Pairs.{pair_coeff, pair_style}
use Rattle.meaning.specs.Runs.{reset_timestep, run}
use Rattle.meaning.specs.Session.{clear}
use Rattle.meaning.specs.Setup.{atom_style, boundary, dimension, processors, timestep}
use Rattle.meaning.specs.SystemFiles.{read_data, write_data}
use Rattle.meaning.specs.Thermo.{thermo}
use Rattle.meaning.specs.ValueGroups.{group_by_values}
use Rattle.meaning.specs.Variables.{variable}
use Rattle.meaning.specs.Velocity.{velocity}
use Rattle.outside.specs.declared.files.File.{File}

-- atoms of other styles are not built yet
abbrev pub atoms_of_style : AtomStyle → Settings → Outcome
atoms_of_style Atomic s = answered s (atom_style Atomic s)
atoms_of_style _ s = silent s unbuilt

-- nor are fixes of other styles
abbrev pub fix_of : FixStyle → NewFix → Settings → Outcome
fix_of Nve f s = answered s (fix f s)
fix_of _ f s = silent s unbuilt

abbrev pub group_of : Members → GroupChange → Settings → Outcome
group_of (Variable name) g s = answered s (group_by_values g.id name s)
group_of _ g s = answered s (group g s)

-- a command by itself, over the files of a shelf
abbrev pub carried_out : List File → Command → Settings → Outcome
carried_out files command.Units s = done s
carried_out files (command.Dimension dim) s = answered s (dimension dim s)
carried_out files (command.Boundary periodic) s = answered s (boundary periodic s)
carried_out files (command.AtomStyle style) s = atoms_of_style style s
carried_out files (command.Processors grid) s = answered s (processors grid s)
carried_out files command.Newton s = done s
carried_out files command.AtomModify s = done s
carried_out files command.Echo s = done s
carried_out files (command.Lattice l) s = answered s (lattice l s)
carried_out files (command.Region r) s = answered s (region r s)
carried_out files (command.CreateBox b) s = answered s (create_box b s)
carried_out files (command.CreateAtoms c) s = answered s (create_atoms c s)
carried_out files (command.ReadData name) s = read_data files name s
carried_out files (command.WriteData name) s = write_data name s
carried_out files (command.Mass m) s = answered s (mass m s)
carried_out files (command.Group g) s = group_of g.members g s
carried_out files (command.PairStyle cutoff) s = answered s (pair_style cutoff s)
carried_out files (command.PairCoeff c) s = answered s (pair_coeff c s)
carried_out files (command.Neighbor skin) s = done (neighbor skin s)
carried_out files command.NeighModify s = done s
carried_out files (command.CommModify cutoff) s = done (comm_cutoff cutoff s)
carried_out files (command.Velocity v) s = answered s (velocity v s)
carried_out files (command.Fix f) s = fix_of f.style f s
carried_out files (command.Unfix id) s = answered s (unfix id s)
carried_out files (command.Thermo every) s = done (thermo every s)
carried_out files (command.Run r) s = run r.upto r.steps s
carried_out files (command.Timestep dt) s = done (timestep dt s)
carried_out files (command.ResetTimestep step) s = answered s (reset_timestep step s)
carried_out files (command.Print text) s = print text s
carried_out files (command.Log name) s = answered s (log name s)
carried_out files (command.Variable v) s = variable v s
carried_out files command.Clear s = done (clear s)
carried_out files command.Quit s = silent s quits
carried_out files _ s = silent s unbuilt

-- the commands that change the system, whatever they changed: what the last run knew holds no more
abbrev pub changes_system : Command → Bool
changes_system (command.CreateBox b) = true
changes_system (command.CreateAtoms c) = true
changes_system (command.ReadData name) = true
changes_system (command.Mass m) = true
changes_system (command.Velocity v) = true
changes_system (command.Timestep dt) = true
changes_system (command.ResetTimestep step) = true
changes_system command.Clear = true
changes_system _ = false

abbrev pub forgotten_by : Way → Settings → Settings
forgotten_by goes s = record s { known = [] }
forgotten_by _ s = s

abbrev pub forgets_if : Bool → Outcome → Outcome
forgets_if true o = record o { state = forgotten_by o.way o.state }
forgets_if false o = o

-- a command, over the files of a shelf
abbrev pub outcome_of : List File → Command → Settings → Outcome
outcome_of files k s = forgets_if (changes_system k) (carried_out files k s)
