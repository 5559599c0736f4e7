-- Bonds, angles and special weights.
use Rattle.std.specs.Prelude.{ℕ, ℤ, pos, Result, Ok, List, [], ◌∷◌}
use Rattle.box_geo.specs.declared.limits.TheConstants.{FULL_WEIGHT, MAX_REST_LENGTH, MAX_STIFFNESS}
use Rattle.command_words.specs.Values.{kinds, number, then}
use Rattle.command_words.specs.declared.bonds.BondsForm.{BondsForm}
use Rattle.command_words.specs.declared.bonds.BondsForm.TheVariants as form
use Rattle.command_words.specs.declared.bonds.TheConstants.{SPECIAL_BONDS, BOND_STYLE, BOND_COEFF, ANGLE_STYLE, ANGLE_COEFF}
use Rattle.command_words.specs.declared.places.Place.{Place}
use Rattle.command_words.specs.declared.command.Command.{Command}
use Rattle.command_words.specs.declared.command.Command.TheVariants as command
use Rattle.command_words.specs.declared.refusal.WordRefusal.{WordRefusal}

-- the places of a form
abbrev pub places : BondsForm → List Place
places form.SpecialBonds = SPECIAL_BONDS.now
places form.BondStyle = BOND_STYLE.now
places form.BondCoeff = BOND_COEFF.now
places form.AngleStyle = ANGLE_STYLE.now
places form.AngleCoeff = ANGLE_COEFF.now

-- a special weight
abbrev pub weight : ℕ → List (List ℕ) → Result ℤ WordRefusal
weight place words = number place (pos 0) FULL_WEIGHT words

abbrev pub special_bonds : List (List ℕ) → Result Command WordRefusal
special_bonds words =
    then (weight 2 words) (λ a. then (weight 3 words) (λ b. then (weight 4 words) (λ c. Ok (command.SpecialBonds (a ∷ b ∷ c ∷ [])))))

abbrev pub bond_coeff : List (List ℕ) → Result Command WordRefusal
bond_coeff words =
    then (kinds 1 words) (λ t. then (number 2 (pos 0) MAX_STIFFNESS words) (λ k. then (number 3 (pos 0) MAX_REST_LENGTH words) (λ r.
    Ok (command.BondCoeff record { kinds = t; stiffness = k; length = r }))))

abbrev pub angle_coeff : List (List ℕ) → Result Command WordRefusal
angle_coeff words =
    then (kinds 1 words) (λ t. then (number 2 (pos 0) MAX_STIFFNESS words) (λ k. Ok (command.AngleCoeff record { kinds = t; stiffness = k })))

-- the command of the words of a form
abbrev pub make : BondsForm → List (List ℕ) → Result Command WordRefusal
make form.SpecialBonds words = special_bonds words
make form.BondStyle words = Ok command.BondStyle
make form.BondCoeff words = bond_coeff words
make form.AngleStyle words = Ok command.AngleStyle
make form.AngleCoeff words = angle_coeff words
