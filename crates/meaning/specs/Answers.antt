-- What a call answers that is to change a part of the state.
use Rattle.std.specs.Prelude.{◌≡◌, Bool, true, false, Option, Some, None, Result, Ok, Err}
use Rattle.meaning.specs.declared.code.Code.{Code}
use Rattle.meaning.specs.declared.code.Code.TheVariants.{FileTooLong, NoBox, NoFile}
use Rattle.meaning.specs.declared.settings.Body.{Body}
use Rattle.meaning.specs.declared.settings.Settings.{Settings}
use Rattle.meaning.specs.declared.refusal.SettingsRefusal.{SettingsRefusal}
use Rattle.meaning.specs.declared.refusal.SettingsRefusal.TheVariants as why

-- a code that tells of a file that was not fetched
abbrev pub is_absence : Code → Bool
is_absence NoFile = true
is_absence FileTooLong = true
is_absence _ = false

-- it makes what is meant, or answers its code, which is not that of a file; and after a refusal all is as it was
abbrev pub Answers : {X : Type 0} → Result X Code → Result Unit SettingsRefusal → X → X → Type 0
Answers meant (Ok done) old new = meant ≡ Ok new
Answers meant (Err (why.Code code)) old new = (meant ≡ Err code) × (is_absence code ≡ false) × (new ≡ old)
Answers meant (Err why.NoMemory) old new = new ≡ old

-- a call that needs no memory
abbrev pub Decides : {X : Type 0} → Result X Code → Result Unit Code → X → X → Type 0
Decides meant (Ok done) old new = meant ≡ Ok new
Decides meant (Err code) old new = (meant ≡ Err code) × (is_absence code ≡ false) × (new ≡ old)

-- what changes what is in the box, where there is a box
abbrev pub with_body : Settings → Result Body Code → Result Settings Code
with_body s (Ok b) = Ok (record s { body = Some b })
with_body s (Err why) = Err why

abbrev pub in_body : (Body → Result Body Code) → Settings → Option Body → Result Settings Code
in_body change s None = Err NoBox
in_body change s (Some b) = with_body s (change b)

-- a call gets what is meant, or answers its code; want of memory may come wherever
abbrev pub Gets : {X : Type 0} → Result X Code → Result X SettingsRefusal → Type 0
Gets meant (Ok x) = meant ≡ Ok x
Gets meant (Err (why.Code code)) = (meant ≡ Err code) × (is_absence code ≡ false)
Gets meant (Err why.NoMemory) = Unit {0}
