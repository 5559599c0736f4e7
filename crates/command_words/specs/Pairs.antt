-- Pairs.
use Rattle.std.specs.Prelude.{◌*ℤ◌, Bool, true, false, cond, ℕ, ℤ, pos, int_lt, Option, Some, None, Result, Ok, Err, List}
use Rattle.box_geo.specs.declared.limits.TheConstants.{MAX_CUTOFF, MAX_EPSILON, MAX_SIGMA}
use Rattle.box_geo.specs.declared.styles.Mix.{Mix}
use Rattle.box_geo.specs.declared.styles.Mix.TheVariants.{Arithmetic, Geometric}
use Rattle.command_words.specs.Values.{kinds, number, says, then}
use Rattle.command_words.specs.declared.pairs.PairCoeff.{PairCoeff}
use Rattle.command_words.specs.declared.vocabulary.Word.TheVariants as name
use Rattle.command_words.specs.declared.pairs.PairsForm.{PairsForm}
use Rattle.command_words.specs.declared.pairs.PairsForm.TheVariants as form
use Rattle.command_words.specs.declared.pairs.TheConstants.{PAIR_STYLE, PAIR_COEFF, PAIR_COEFF_CUT, PAIR_MODIFY}
use Rattle.command_words.specs.declared.places.Place.{Place}
use Rattle.command_words.specs.declared.command.Command.{Command}
use Rattle.command_words.specs.declared.command.Command.TheVariants as command
use Rattle.command_words.specs.declared.refusal.WordRefusal.{WordRefusal}
use Rattle.command_words.specs.declared.refusal.WordRefusal.TheVariants.{BadValue}

-- the places of a form
abbrev pub places : PairsForm → List Place
places form.PairStyle = PAIR_STYLE.now
places form.PairCoeff = PAIR_COEFF.now
places form.PairCoeffCut = PAIR_COEFF_CUT.now
places form.PairModify = PAIR_MODIFY.now

-- a cutoff
abbrev pub cutoff : ℕ → List (List ℕ) → Result ℤ WordRefusal
cutoff place words = number place (pos 1) MAX_CUTOFF words

abbrev pub pair_style : List (List ℕ) → Result Command WordRefusal
pair_style words = then (cutoff 2 words) (λ c. Ok (command.PairStyle c))

-- the coefficients of two ranges of types, with the cutoff of the style
abbrev pub coefficients : List (List ℕ) → Result PairCoeff WordRefusal
coefficients words =
    then (kinds 1 words) (λ a. then (kinds 2 words) (λ b.
    then (number 3 (pos 0) MAX_EPSILON words) (λ e. then (number 4 (pos 1) MAX_SIGMA words) (λ s.
    Ok record { first = a; second = b; epsilon = e; sigma = s; cutoff = None }))))

abbrev pub pair_coeff : List (List ℕ) → Result Command WordRefusal
pair_coeff words = then (coefficients words) (λ p. Ok (command.PairCoeff p))

-- four cutoffs are below a size
abbrev pub is_short : ℤ → ℤ → Bool
is_short cutoff sigma = int_lt (pos 4 *ℤ cutoff) sigma

-- the same with a cutoff of their own, four of which are at least the size
abbrev pub pair_coeff_cut : List (List ℕ) → Result Command WordRefusal
pair_coeff_cut words =
    then (coefficients words) (λ p. then (cutoff 5 words) (λ c.
    cond (is_short c p.sigma) (Err (BadValue 5))
    (Ok (command.PairCoeff record { first = p.first; second = p.second; epsilon = p.epsilon; sigma = p.sigma; cutoff = Some c }))))

-- how pairs are mixed
abbrev pub mix_of : Option Bool → Option Mix
mix_of (Some true) = Some Arithmetic
mix_of (Some false) = Some Geometric
mix_of None = None

abbrev pub mix : List (List ℕ) → Option Mix
mix words = mix_of (says name.Mix name.Arithmetic 1 words)

abbrev pub pair_modify : List (List ℕ) → Command
pair_modify words = command.PairModify record { shift = says name.Shift name.Yes 1 words; mix = mix words }

-- the command of the words of a form
abbrev pub make : PairsForm → List (List ℕ) → Result Command WordRefusal
make form.PairStyle words = pair_style words
make form.PairCoeff words = pair_coeff words
make form.PairCoeffCut words = pair_coeff_cut words
make form.PairModify words = Ok (pair_modify words)
