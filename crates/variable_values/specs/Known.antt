-- What a call is told of the numbers that are known.
use Rattle.std.specs.Prelude.{Option, Some, None, List, []}
use denote.Bor.{Bor}
use Rattle.fx_num.specs.declared.numbers.Number.{Number}
use Rattle.variable_values.specs.declared.known.Known.{Known}
use Rattle.variable_values.specs.Values.{KnownNumbers}

abbrev pub atom_numbers : Option (Bor (List Number)) → List Number
atom_numbers (Some numbers) = numbers.now
atom_numbers None = []

abbrev pub numbers_of : Known → KnownNumbers
numbers_of known = record { state = known.state.now; atom = atom_numbers known.atom }
