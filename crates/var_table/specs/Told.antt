-- What a call tells of what a variable holds.
use Rattle.std.specs.Prelude.{Option, Some, None}
use Rattle.std.specs.Fmt.{decimal}
use Rattle.var_table.specs.declared.source.Source.{Source}
use Rattle.var_table.specs.declared.source.Source.TheVariants.{Text, Number, Equal, AtomWise}
use Rattle.var_table.specs.Variables.{Held, AsText, AsFormula, AsAtomFormula}

abbrev pub told : Source → Held
told (Text text) = AsText text.now
told (Number number) = AsText (decimal number)
told (Equal formula) = AsFormula formula.now
told (AtomWise formula) = AsAtomFormula formula.now

abbrev pub told_any : Option Source → Option Held
told_any (Some source) = Some (told source)
told_any None = None
