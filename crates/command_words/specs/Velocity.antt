-- Velocities.
use Rattle.std.specs.Prelude.{Bool, true, ℕ, ℤ, pos, neg_ℤ, unwrap_or, Option, Result, Ok, List, [], ◌∷◌}
use Rattle.box_geo.specs.declared.limits.TheConstants.{MAX_TEMPERATURE}
use Rattle.fx_num.specs.declared.decimal.TheConstants.{MAX_UNITS}
use Rattle.command_words.specs.Lattice.{is_scaled}
use Rattle.command_words.specs.Values.{number, number_or, says, then, whole, word}
use Rattle.command_words.specs.declared.limits.TheConstants.{MAX_SEED}
use Rattle.command_words.specs.declared.velocity.VelocityAction.{VelocityAction}
use Rattle.command_words.specs.declared.velocity.VelocityAction.TheVariants as act
use Rattle.command_words.specs.declared.vocabulary.Word.TheVariants as name
use Rattle.command_words.specs.declared.vocabulary.Words.TheVariants.{Null}
use Rattle.command_words.specs.declared.velocity.VelocityForm.{VelocityForm}
use Rattle.command_words.specs.declared.velocity.VelocityForm.TheVariants as form
use Rattle.command_words.specs.declared.velocity.TheConstants.{VELOCITY_CREATE, VELOCITY_SET, VELOCITY_SCALE, VELOCITY_ZERO}
use Rattle.command_words.specs.declared.places.Place.{Place}
use Rattle.command_words.specs.declared.command.Command.{Command}
use Rattle.command_words.specs.declared.command.Command.TheVariants as command
use Rattle.command_words.specs.declared.refusal.WordRefusal.{WordRefusal}

-- the places of a form
abbrev pub places : VelocityForm → List Place
places form.VelocityCreate = VELOCITY_CREATE.now
places form.VelocitySet = VELOCITY_SET.now
places form.VelocityScale = VELOCITY_SCALE.now
places form.VelocityZero = VELOCITY_ZERO.now

-- the mean is taken off the velocities that are drawn, unless it is said otherwise
abbrev pub is_still : List (List ℕ) → Bool
is_still words = unwrap_or (says name.Mom name.Yes 5 words) true

abbrev pub draws_in : List (List ℕ) → Result VelocityAction WordRefusal
draws_in words =
    then (number 3 (pos 0) MAX_TEMPERATURE words) (λ t. then (whole 4 1 MAX_SEED words) (λ s.
    Ok (act.Create record { temperature = t; seed = s; still = is_still words })))

-- a component that is set, none for `NULL`
abbrev pub component : ℕ → List (List ℕ) → Result (Option ℤ) WordRefusal
component place words = number_or Null place (neg_ℤ MAX_UNITS) MAX_UNITS words

abbrev pub components_in : List (List ℕ) → Result VelocityAction WordRefusal
components_in words =
    then (component 3 words) (λ x. then (component 4 words) (λ y. then (component 5 words) (λ z.
    Ok (act.Set record { v = x ∷ y ∷ z ∷ []; scaled = is_scaled 6 words }))))

abbrev pub action : VelocityForm → List (List ℕ) → Result VelocityAction WordRefusal
action form.VelocityCreate words = draws_in words
action form.VelocitySet words = components_in words
action form.VelocityScale words = then (number 3 (pos 0) MAX_TEMPERATURE words) (λ t. Ok (act.Scale t))
action form.VelocityZero words = Ok act.Zero

-- the command of the words of a form
abbrev pub make : VelocityForm → List (List ℕ) → Result Command WordRefusal
make form words = then (action form words) (λ a. Ok (command.Velocity record { group = word 1 words; action = a }))
