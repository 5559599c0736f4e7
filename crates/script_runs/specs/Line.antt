-- What a thermo line shows of an engine.
use Rattle.std.specs.Prelude.{◌≡◌, ◌≤◌, ◌^◌, ◌+ℤ◌, ◌*ℤ◌, ◌++◌, ℕ, ℤ, pos, unsigned_abs, List, [], ◌∷◌, length, codes, All}
use Rattle.box_geo.specs.declared.limits.TheConstants.{MAX_ATOMS, MAX_STEP}
use Rattle.box_geo.specs.declared.sim_box.Sides.{Sides}
use Rattle.box_geo.specs.Sides.{edge, volume_of}
use Rattle.computes.specs.Quantities.{energy_share, kinetic_share, kinetic_sum, pressure, temperature}
use Rattle.fx_num.specs.declared.numbers.Number.{Number}
use Rattle.meaning.specs.Known.{number}
use Rattle.meaning.specs.Thermo.{thermo_footer, thermo_line}
use Rattle.script_runs.specs.declared.numbers.Energies.{Energies}
use Rattle.script_runs.specs.declared.numbers.Size.{Size}
use Rattle.script_runs.specs.declared.numbers.Values.{Values}
use Rattle.serial_step.specs.Step.{Sums}
use Rattle.step_engine.specs.Engine.{World, setting_of}
use Rattle.step_engine.specs.Ranges.{IsMovable, IsSmall, IsTimestep}
use Rattle.step_engine.specs.declared.tally.Tally.{Tally}

-- the sums of pairs in an evaluation of forces
abbrev pub sums_in : Tally → Sums
sums_in t = record { pair = t.pair; virial = t.virial }

-- an engine with the sums of its forces keeps to the ranges of a thermo line, and has no bonds or angles
pub record IsShown (w : World) (t : Tally) : Type 0 where
  pub step : w.state.step ≤ MAX_STEP
  pub few : length w.state.atoms ≤ MAX_ATOMS
  pub dt : IsTimestep w.rules.dt
  pub movable : All (IsMovable w.rules.mass) w.state.atoms
  pub small : IsSmall w.rules.cell.sides (length w.state.atoms) t
  pub bond : t.bond ≡ pos 0
  pub angle : t.angle ≡ pos 0

-- the line and the footer of an engine; which atoms are moved doesn't matter
abbrev pub line_now : World → Tally → List ℕ
line_now w t = thermo_line (setting_of w.rules []) w.state (sums_in t)

abbrev pub footer_now : World → List ℕ
footer_now w = thermo_footer (setting_of w.rules []) w.state

-- the values under their keywords, behind other numbers
abbrev pub more : List Number → List ℕ → ℤ → List Number
more numbers keyword value = numbers ++ number keyword value ∷ []

abbrev pub with_progress : List Number → Values → List Number
with_progress numbers v =
    more (more (more (more (more (more numbers (codes "step") (pos v.step)) (codes "atoms") (pos v.atoms)) (codes "dt") v.dt) (codes "time") v.time) (codes "temp") v.temp) (codes "press") v.press

abbrev pub with_energies : List Number → Energies → List Number
with_energies numbers e =
    more (more (more (more (more (more (more numbers (codes "pe") e.potential) (codes "ke") e.kinetic) (codes "etotal") e.total) (codes "epair") e.pair) (codes "emol") e.molecular) (codes "ebond") e.bond) (codes "eangle") e.angle

abbrev pub with_size : List Number → Size → List Number
with_size numbers size = more (more (more (more numbers (codes "vol") size.volume) (codes "lx") size.x) (codes "ly") size.y) (codes "lz") size.z

abbrev pub with_computes : List Number → Values → List Number
with_computes numbers v = more (more (more numbers (codes "c_thermo_temp") v.temp) (codes "c_thermo_press") v.press) (codes "c_thermo_pe") v.energies.computed

abbrev pub numbers_under : Values → List Number
numbers_under v = with_computes (with_size (with_energies (with_progress [] v) v.energies) v.size) v

-- they are those of an engine with the sums of its forces
pub record AreEnergies (whole s : ℤ) (n : ℕ) (e : Energies) : Type 0 where
  pub potential : e.potential ≡ energy_share whole n +ℤ energy_share (pos 0 +ℤ pos 0) n
  pub kinetic : e.kinetic ≡ kinetic_share s n
  pub total : e.total ≡ energy_share whole n +ℤ energy_share (pos 0 +ℤ pos 0) n +ℤ kinetic_share s n
  pub pair : e.pair ≡ energy_share whole n
  pub molecular : e.molecular ≡ energy_share (pos 0 +ℤ pos 0) n
  pub bond : e.bond ≡ energy_share (pos 0) n
  pub angle : e.angle ≡ energy_share (pos 0) n
  pub computed : e.computed ≡ energy_share (whole +ℤ pos 0 +ℤ pos 0) n

pub record IsSizeOf (s : Sides) (size : Size) : Type 0 where
  pub volume : size.volume ≡ pos (volume_of s)
  pub x : size.x ≡ edge s.x
  pub y : size.y ≡ edge s.y
  pub z : size.z ≡ edge s.z

pub record AreValues (w : World) (t : Tally) (v : Values) : Type 0 where
  pub step : v.step ≡ w.state.step
  pub atoms : v.atoms ≡ length w.state.atoms
  pub dt : v.dt ≡ w.rules.dt
  pub time : v.time ≡ pos w.state.step *ℤ w.rules.dt
  pub temp : v.temp ≡ temperature (kinetic_sum w.rules.mass w.state.atoms) (length w.state.atoms) w.rules.cell.sides.dim
  pub press : v.press ≡ pressure (kinetic_sum w.rules.mass w.state.atoms) t.virial w.rules.cell.sides
  pub energies : AreEnergies t.pair (kinetic_sum w.rules.mass w.state.atoms) (length w.state.atoms) v.energies
  pub size : IsSizeOf w.rules.cell.sides v.size

-- they are of a magnitude that can be printed
pub record ArePrintable (e : Energies) : Type 0 where
  pub potential : unsigned_abs e.potential ≤ 2 ^ 98
  pub kinetic : unsigned_abs e.kinetic ≤ 2 ^ 98
  pub total : unsigned_abs e.total ≤ 2 ^ 98
  pub pair : unsigned_abs e.pair ≤ 2 ^ 98
  pub molecular : unsigned_abs e.molecular ≤ 2 ^ 98
  pub bond : unsigned_abs e.bond ≤ 2 ^ 98
  pub angle : unsigned_abs e.angle ≤ 2 ^ 98
  pub computed : unsigned_abs e.computed ≤ 2 ^ 98

pub record IsPrintableSize (size : Size) : Type 0 where
  pub volume : unsigned_abs size.volume ≤ 2 ^ 98
  pub x : unsigned_abs size.x ≤ 2 ^ 98
  pub y : unsigned_abs size.y ≤ 2 ^ 98
  pub z : unsigned_abs size.z ≤ 2 ^ 98

pub record IsPrintable (v : Values) : Type 0 where
  pub step : v.step ≤ 2 ^ 98
  pub atoms : v.atoms ≤ 2 ^ 98
  pub dt : unsigned_abs v.dt ≤ 2 ^ 98
  pub time : unsigned_abs v.time ≤ 2 ^ 98
  pub temp : unsigned_abs v.temp ≤ 2 ^ 98
  pub press : unsigned_abs v.press ≤ 2 ^ 98
  pub energies : ArePrintable v.energies
  pub size : IsPrintableSize v.size
