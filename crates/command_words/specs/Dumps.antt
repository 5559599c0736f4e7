-- Dumps.
use Rattle.std.specs.Prelude.{ℕ, Result, Ok, List, drop}
use Rattle.command_words.specs.Values.{count, says, then, word}
use Rattle.command_words.specs.declared.dumps.DumpStyle.{DumpStyle}
use Rattle.command_words.specs.declared.dumps.DumpStyle.TheVariants as style
use Rattle.command_words.specs.declared.vocabulary.Word.TheVariants as name
use Rattle.command_words.specs.declared.dumps.DumpsForm.{DumpsForm}
use Rattle.command_words.specs.declared.dumps.DumpsForm.TheVariants as form
use Rattle.command_words.specs.declared.dumps.TheConstants.{DUMP_ATOM, DUMP_CUSTOM, DUMP_MODIFY, UNDUMP}
use Rattle.command_words.specs.declared.places.Place.{Place}
use Rattle.command_words.specs.declared.command.Command.{Command}
use Rattle.command_words.specs.declared.command.Command.TheVariants as command
use Rattle.command_words.specs.declared.refusal.WordRefusal.{WordRefusal}

-- the places of a form
abbrev pub places : DumpsForm → List Place
places form.DumpAtom = DUMP_ATOM.now
places form.DumpCustom = DUMP_CUSTOM.now
places form.DumpModify = DUMP_MODIFY.now
places form.Undump = UNDUMP.now

abbrev pub new_dump : ℕ → DumpStyle → List (List ℕ) → Command
new_dump every columns words =
    command.Dump record { id = word 1 words; group = word 2 words; every = every; file = word 5 words; style = columns }

abbrev pub dump : DumpStyle → List (List ℕ) → Result Command WordRefusal
dump columns words = then (count 4 words) (λ n. Ok (new_dump n columns words))

abbrev pub dump_modify : List (List ℕ) → Command
dump_modify words = command.DumpModify record { id = word 1 words; scale = says name.Scale name.Yes 2 words }

-- the command of the words of a form
abbrev pub make : DumpsForm → List (List ℕ) → Result Command WordRefusal
make form.DumpAtom words = dump style.Atom words
make form.DumpCustom words = dump (style.Custom (drop 6 words)) words
make form.DumpModify words = Ok (dump_modify words)
make form.Undump words = Ok (command.Undump (word 1 words))
