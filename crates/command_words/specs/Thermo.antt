-- Thermo output.
use Rattle.std.specs.Prelude.{ℕ, Result, Ok, List, drop}
use Rattle.command_words.specs.Values.{count, says, then}
use Rattle.command_words.specs.declared.thermo.Columns.TheVariants.{One, Custom}
use Rattle.command_words.specs.declared.vocabulary.Word.TheVariants as name
use Rattle.command_words.specs.declared.thermo.ThermoForm.{ThermoForm}
use Rattle.command_words.specs.declared.thermo.ThermoForm.TheVariants as form
use Rattle.command_words.specs.declared.thermo.TheConstants.{THERMO, THERMO_STYLE_ONE, THERMO_STYLE_CUSTOM, THERMO_MODIFY}
use Rattle.command_words.specs.declared.places.Place.{Place}
use Rattle.command_words.specs.declared.command.Command.{Command}
use Rattle.command_words.specs.declared.command.Command.TheVariants as command
use Rattle.command_words.specs.declared.refusal.WordRefusal.{WordRefusal}

-- the places of a form
abbrev pub places : ThermoForm → List Place
places form.Thermo = THERMO.now
places form.ThermoStyleOne = THERMO_STYLE_ONE.now
places form.ThermoStyleCustom = THERMO_STYLE_CUSTOM.now
places form.ThermoModify = THERMO_MODIFY.now

abbrev pub thermo : List (List ℕ) → Result Command WordRefusal
thermo words = then (count 1 words) (λ n. Ok (command.Thermo n))

-- the command of the words of a form
abbrev pub make : ThermoForm → List (List ℕ) → Result Command WordRefusal
make form.Thermo words = thermo words
make form.ThermoStyleOne words = Ok (command.ThermoStyle One)
make form.ThermoStyleCustom words = Ok (command.ThermoStyle (Custom (drop 2 words)))
make form.ThermoModify words = Ok (command.ThermoModify (says name.Norm name.Yes 1 words))
