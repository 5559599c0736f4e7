-- What is set up before there is a box, and the timestep. A command that comes before a box is refused where there is one.
use Rattle.std.specs.Prelude.{◌==◌, ◌&&◌, Bool, true, false, cond, not, is_some, ℕ, ℤ, Result, Ok, Err, List, slice_index_or}
use Rattle.box_geo.specs.declared.styles.AtomStyle.{AtomStyle}
use Rattle.meaning.specs.declared.code.Code.{Code}
use Rattle.meaning.specs.declared.code.Code.TheVariants.{BoxExists, WrongStyle}
use Rattle.meaning.specs.declared.settings.Settings.{Settings}
use Rattle.meaning.specs.declared.setup.Setup.{Setup}

-- before a box
abbrev pub before_box : Settings → Result Setup Code → Result Settings Code
before_box s (Ok setup) = cond (is_some s.body) (Err BoxExists) (Ok (record s { setup = setup }))
before_box s (Err why) = cond (is_some s.body) (Err BoxExists) (Err why)

-- whether the z axis is periodic
abbrev pub is_periodic_z : List Bool → Bool
is_periodic_z periodic = slice_index_or periodic 2 false

-- in two dimensions z is periodic
abbrev pub goes_together : ℕ → List Bool → Bool
goes_together dim periodic = not ((dim == 2) && not (is_periodic_z periodic))

abbrev pub in_style : Bool → Setup → Result Setup Code
in_style true setup = Ok setup
in_style false setup = Err WrongStyle

abbrev pub dimension : ℕ → Settings → Result Settings Code
dimension dim s = before_box s (in_style (goes_together dim s.setup.periodic) (record s.setup { dim = dim }))

abbrev pub boundary : List Bool → Settings → Result Settings Code
boundary periodic s = before_box s (in_style (goes_together s.setup.dim periodic) (record s.setup { periodic = periodic }))

abbrev pub atom_style : AtomStyle → Settings → Result Settings Code
atom_style style s = before_box s (Ok (record s.setup { style = style }))

abbrev pub processors : List ℕ → Settings → Result Settings Code
processors grid s = before_box s (Ok (record s.setup { grid = grid }))

abbrev pub timestep : ℤ → Settings → Settings
timestep dt s = record s { setup = record s.setup { timestep = dt } }
