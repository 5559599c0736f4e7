-- How a run is judged before it is begun.
use Rattle.std.specs.Prelude.{◌≡◌, Bool, cond, ℕ, Option, Some, None}
use Rattle.meaning.specs.declared.code.Code.{Code}
use Rattle.meaning.specs.declared.refusal.Refusal.{Refusal}
use Rattle.meaning.specs.declared.refusal.Refusal.TheVariants.{NoMemory, NotBuilt}
use Rattle.meaning.specs.declared.refusal.Refusal.TheVariants as why
use Rattle.meaning.specs.declared.settings.Body.{Body}
use Rattle.meaning.specs.declared.settings.Settings.{Settings}
use Rattle.meaning.specs.Runs.{early_code, is_mixed, late_code}

-- a code refuses a run, or else what comes after it may
abbrev pub code_or : Option Code → Option Refusal → Option Refusal
code_or (Some code) rest = Some (why.Code code)
code_or None rest = rest

-- why a run over a body is refused: by an early code, since its coefficients would have to be mixed, or by a late code
abbrev pub refusal_of : Bool → ℕ → Settings → Body → Option Refusal
refusal_of upto n s b = code_or (early_code upto n s b) (cond (is_mixed s b) (Some NotBuilt) (code_or (late_code s b) None))

-- a run is stopped by what refuses it, or since memory is wanted
abbrev pub Stops : Refusal → Option Refusal → Type 0
Stops NoMemory meant = Unit {0}
Stops why meant = meant ≡ Some why
