-- Options: words that stand behind the other words of a command, each with a value.
use Rattle.std.specs.Prelude.{cond, ℕ, Option, Some, None, List, [], ◌∷◌}
use Rattle.std.specs.Str.{bytes_eq}
use Rattle.command_words.specs.Vocabulary.{text_of}
use Rattle.command_words.specs.declared.options.TheConstants.{REGION, UNITS, BOX, PAIR, NEIGH, DRAW, AVERAGE, THERMO, DUMP}
use Rattle.command_words.specs.declared.options.Choice.{Choice}
use Rattle.command_words.specs.declared.options.Options.{Options}
use Rattle.command_words.specs.declared.options.Options.TheVariants as options
use Rattle.command_words.specs.declared.places.Kind.{Kind}

-- the options of a form, each with what its value may be
abbrev pub choices_in : Options → List Choice
choices_in options.Region = REGION.now
choices_in options.Units = UNITS.now
choices_in options.Box = BOX.now
choices_in options.Pair = PAIR.now
choices_in options.Neigh = NEIGH.now
choices_in options.Draw = DRAW.now
choices_in options.Average = AVERAGE.now
choices_in options.Thermo = THERMO.now
choices_in options.Dump = DUMP.now

-- what the value of an option may be, if it is one of these
abbrev pub kind_of_option : List Choice → List ℕ → Option Kind
kind_of_option [] text = None
kind_of_option (c ∷ cs) text = cond (bytes_eq (text_of c.word) text) (Some c.kind) (kind_of_option cs text)
