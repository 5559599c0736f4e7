-- The numbers of a thermo line, and when one is due.
use Rattle.std.specs.Prelude.{◌==◌, ◌%◌, ◌&&◌, ◌||◌, Bool, not, ℕ, ℤ, pos, ◌+ℤ◌, ◌*ℤ◌, List, [], ◌∷◌, length, codes}
use Rattle.box_geo.specs.Sides.{edge, volume_of}
use Rattle.computes.specs.Quantities.{energy_share, kinetic_share, kinetic_sum, pressure, temperature}
use Rattle.fx_num.specs.declared.numbers.Number.{Number}
use Rattle.meaning.specs.Known.{number}
use Rattle.meaning.specs.declared.settings.Settings.{Settings}
use Rattle.serial_step.specs.Step.{Setting, State, Sums, counts}
use Rattle.thermo_text.specs.Thermo.{footer_text, header_text, line_text, style_one}

abbrev pub thermo : ℕ → Settings → Settings
thermo every s = record s { output = record s.output { every = every } }

-- a thermo line is due at each step whose number is a multiple of `every`, where that is not 0, and at the last step
abbrev pub is_multiple : ℕ → ℕ → Bool
is_multiple every step = not (every == 0) && (step % every == 0)

abbrev pub is_due : ℕ → ℕ → ℕ → Bool
is_due every last step = is_multiple every step || (step == last)

-- the numbers by keyword, of n atoms whose sum of mass times squared velocity is s; energies are shared out over all atoms. There are no bonds or angles yet.
abbrev pub numbers_with : ℕ → ℕ → ℤ → Sums → Setting → List Number
numbers_with step n s sums t =
    let bond : ℤ = pos 0 in
    let angle : ℤ = pos 0 in
    let pair : ℤ = energy_share sums.pair n in
    let molecular : ℤ = energy_share (bond +ℤ angle) n in
    let kinetic : ℤ = kinetic_share s n in
    number (codes "step") (pos step)
    ∷ number (codes "atoms") (pos n)
    ∷ number (codes "dt") t.dt
    ∷ number (codes "time") (pos step *ℤ t.dt)
    ∷ number (codes "temp") (temperature s n t.sides.dim)
    ∷ number (codes "press") (pressure s sums.virial t.sides)
    ∷ number (codes "pe") (pair +ℤ molecular)
    ∷ number (codes "ke") kinetic
    ∷ number (codes "etotal") (pair +ℤ molecular +ℤ kinetic)
    ∷ number (codes "epair") pair
    ∷ number (codes "emol") molecular
    ∷ number (codes "ebond") (energy_share bond n)
    ∷ number (codes "eangle") (energy_share angle n)
    ∷ number (codes "vol") (pos (volume_of t.sides))
    ∷ number (codes "lx") (edge t.sides.x)
    ∷ number (codes "ly") (edge t.sides.y)
    ∷ number (codes "lz") (edge t.sides.z)
    ∷ number (codes "c_thermo_temp") (temperature s n t.sides.dim)
    ∷ number (codes "c_thermo_press") (pressure s sums.virial t.sides)
    ∷ number (codes "c_thermo_pe") (energy_share (sums.pair +ℤ bond +ℤ angle) n)
    ∷ []

abbrev pub numbers_of : Setting → State → Sums → List Number
numbers_of t state sums = numbers_with state.step (length state.atoms) (kinetic_sum t.mass state.atoms) sums t

abbrev pub thermo_header : List ℕ
thermo_header = header_text style_one

abbrev pub thermo_line : Setting → State → Sums → List ℕ
thermo_line t state sums = line_text style_one (numbers_of t state sums)

-- the footer: the neighbour pairs at the last references, and how often they were renewed
abbrev pub thermo_footer : Setting → State → List ℕ
thermo_footer t state = footer_text (counts t state).0 (counts t state).1
