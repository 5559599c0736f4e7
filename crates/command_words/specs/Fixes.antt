-- Fixes.
use Rattle.std.specs.Prelude.{◌==◌, ◌&&◌, ◌+◌, ◌*◌, ◌%◌, Bool, cond, ℕ, ℤ, neg_ℤ, nat_le, option_and_then, Option, Some, Result, Ok, Err, List, [], ◌∷◌, length, drop, map, take}
use Rattle.std.specs.List.{prefix_len}
use Rattle.box_geo.specs.declared.limits.TheConstants.{MAX_FORCE, MAX_STEP}
use Rattle.names.specs.Names.{is_compute}
use Rattle.command_words.specs.Values.{number, number_or, then, value_place, whole, word}
use Rattle.command_words.specs.declared.fixes.FixStyle.{FixStyle}
use Rattle.command_words.specs.declared.fixes.FixStyle.TheVariants as style
use Rattle.command_words.specs.declared.fixes.Periods.{Periods}
use Rattle.command_words.specs.declared.limits.TheConstants.{MAX_REPEAT}
use Rattle.command_words.specs.declared.vocabulary.Word.TheVariants as name
use Rattle.command_words.specs.declared.vocabulary.Words.TheVariants.{Null}
use Rattle.command_words.specs.declared.fixes.FixesForm.{FixesForm}
use Rattle.command_words.specs.declared.fixes.FixesForm.TheVariants as form
use Rattle.command_words.specs.declared.fixes.TheConstants.{FIX_NVE, FIX_SET_FORCE, FIX_ADD_FORCE, FIX_ENFORCE2D, FIX_AVERAGE, FIX_EXTERNAL, UNFIX}
use Rattle.command_words.specs.declared.places.Place.{Place}
use Rattle.command_words.specs.declared.command.Command.{Command}
use Rattle.command_words.specs.declared.command.Command.TheVariants as command
use Rattle.command_words.specs.declared.refusal.WordRefusal.{WordRefusal}
use Rattle.command_words.specs.declared.refusal.WordRefusal.TheVariants.{BadValue}

-- the places of a form
abbrev pub places : FixesForm → List Place
places form.FixNve = FIX_NVE.now
places form.FixSetForce = FIX_SET_FORCE.now
places form.FixAddForce = FIX_ADD_FORCE.now
places form.FixEnforce2d = FIX_ENFORCE2D.now
places form.FixAverage = FIX_AVERAGE.now
places form.FixExternal = FIX_EXTERNAL.now
places form.Unfix = UNFIX.now

-- a component of a force, none for `NULL`
abbrev pub force : ℕ → List (List ℕ) → Result ℤ WordRefusal
force place words = number place (neg_ℤ MAX_FORCE) MAX_FORCE words

abbrev pub force_or : ℕ → List (List ℕ) → Result (Option ℤ) WordRefusal
force_or place words = number_or Null place (neg_ℤ MAX_FORCE) MAX_FORCE words

abbrev pub set_force : List (List ℕ) → Result FixStyle WordRefusal
set_force words =
    then (force_or 4 words) (λ x. then (force_or 5 words) (λ y. then (force_or 6 words) (λ z. Ok (style.SetForce (x ∷ y ∷ z ∷ [])))))

abbrev pub add_force : List (List ℕ) → Result FixStyle WordRefusal
add_force words =
    then (force 4 words) (λ x. then (force 5 words) (λ y. then (force 6 words) (λ z. Ok (style.AddForce (x ∷ y ∷ z ∷ [])))))

-- `ave/time`: an average is a multiple of the steps between samples apart, and has room for its samples
abbrev pub is_regular : ℕ → ℕ → ℕ → Bool
is_regular every repeat freq = (freq % every == 0) && nat_le (every * repeat) freq

abbrev pub periods_in : List (List ℕ) → Result Periods WordRefusal
periods_in words =
    then (whole 4 1 MAX_STEP words) (λ e. then (whole 5 1 MAX_REPEAT words) (λ r. then (whole 6 1 MAX_STEP words) (λ f.
    cond (is_regular e r f) (Ok record { every = e; repeat = r; freq = f }) (Err (BadValue 6)))))

-- the words that name computes, and a compute's ID
abbrev pub compute_words : List (List ℕ) → List (List ℕ)
compute_words words = take (prefix_len is_compute (drop 7 words)) (drop 7 words)

abbrev pub id_of : List ℕ → List ℕ
id_of [] = []
id_of (c ∷ []) = []
id_of (c ∷ dash ∷ id) = id

abbrev pub average_file : ℕ → List (List ℕ) → Option (List ℕ)
average_file from words = option_and_then (λ place. Some (word place words)) (value_place name.File from words)

abbrev pub averages_in : Periods → List (List ℕ) → FixStyle
averages_in p words =
    style.Average record {
      every = p.every;
      repeat = p.repeat;
      freq = p.freq;
      computes = map id_of (compute_words words);
      file = average_file (length (compute_words words) + 7) words;
    }

abbrev pub average : List (List ℕ) → Result FixStyle WordRefusal
average words = then (periods_in words) (λ p. Ok (averages_in p words))

abbrev pub new_fix : FixStyle → List (List ℕ) → Command
new_fix does words = command.Fix record { id = word 1 words; group = word 2 words; style = does }

abbrev pub fix_of : Result FixStyle WordRefusal → List (List ℕ) → Result Command WordRefusal
fix_of does words = then does (λ s. Ok (new_fix s words))

-- the command of the words of a form
abbrev pub make : FixesForm → List (List ℕ) → Result Command WordRefusal
make form.FixNve words = Ok (new_fix style.Nve words)
make form.FixSetForce words = fix_of (set_force words) words
make form.FixAddForce words = fix_of (add_force words) words
make form.FixEnforce2d words = Ok (new_fix style.Enforce2d words)
make form.FixAverage words = fix_of (average words) words
make form.FixExternal words = Ok (new_fix style.External words)
make form.Unfix words = Ok (command.Unfix (word 1 words))
