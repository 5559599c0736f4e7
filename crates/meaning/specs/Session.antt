-- `clear`, and the state in which a script begins.
use Rattle.std.specs.Prelude.{true, pos, None, List, [], ◌∷◌}
use Rattle.box_geo.specs.declared.styles.AtomStyle.TheVariants.{Atomic}
use Rattle.box_geo.specs.declared.limits.TheConstants.{DEFAULT_SKIN, DEFAULT_TIMESTEP}
use Rattle.meaning.specs.declared.force.Force.{Force}
use Rattle.meaning.specs.declared.named.Named.{Named}
use Rattle.meaning.specs.declared.output.Output.{Output}
use Rattle.meaning.specs.declared.settings.Settings.{Settings}
use Rattle.meaning.specs.declared.setup.Setup.{Setup}
use Rattle.regions_groups.specs.Groups.{all_alone}
use Rattle.var_table.specs.Variables.{Named as Variable}

abbrev pub first_setup : Setup
first_setup = record { dim = 3; periodic = true ∷ true ∷ true ∷ []; style = Atomic; grid = 1 ∷ 1 ∷ 1 ∷ []; timestep = DEFAULT_TIMESTEP; lattice = None }

abbrev pub first_force : Force
first_force = record { pair_style = None; pairs = []; comm_cutoff = pos 0; skin = DEFAULT_SKIN }

abbrev pub first_named : Named
first_named = record { regions = []; groups = all_alone; fixes = [] }

-- the settings as they are at the start, but for the log, the screen, the uses of names and the variables
abbrev pub begun_with : Output → List Variable → Settings
begun_with o vars = record {
  body = None;
  setup = first_setup;
  force = first_force;
  named = first_named;
  output = record o { every = 0 };
  vars = vars;
  known = [];
}

abbrev pub clear : Settings → Settings
clear s = begun_with s.output s.vars
