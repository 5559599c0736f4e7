-- Variables.
use Rattle.std.specs.Prelude.{cond, ℕ, nat_le, Result, Ok, Err, List, drop}
use Rattle.command_words.specs.Values.{then, whole, word}
use Rattle.command_words.specs.declared.limits.TheConstants.{MAX_LOOP}
use Rattle.command_words.specs.declared.variables.LoopRange.{LoopRange}
use Rattle.command_words.specs.declared.variables.VariableStyle.{VariableStyle}
use Rattle.command_words.specs.declared.variables.VariableStyle.TheVariants as style
use Rattle.command_words.specs.declared.variables.VariablesForm.{VariablesForm}
use Rattle.command_words.specs.declared.variables.VariablesForm.TheVariants as form
use Rattle.command_words.specs.declared.variables.TheConstants.{VARIABLE_INDEX, VARIABLE_LOOP, VARIABLE_LOOP_RANGE, VARIABLE_EQUAL, VARIABLE_ATOM, VARIABLE_STRING, VARIABLE_DELETE, NEXT}
use Rattle.command_words.specs.declared.places.Place.{Place}
use Rattle.command_words.specs.declared.command.Command.{Command}
use Rattle.command_words.specs.declared.command.Command.TheVariants as command
use Rattle.command_words.specs.declared.refusal.WordRefusal.{WordRefusal}
use Rattle.command_words.specs.declared.refusal.WordRefusal.TheVariants.{BadValue}

-- the places of a form
abbrev pub places : VariablesForm → List Place
places form.VariableIndex = VARIABLE_INDEX.now
places form.VariableLoop = VARIABLE_LOOP.now
places form.VariableLoopRange = VARIABLE_LOOP_RANGE.now
places form.VariableEqual = VARIABLE_EQUAL.now
places form.VariableAtom = VARIABLE_ATOM.now
places form.VariableString = VARIABLE_STRING.now
places form.VariableDelete = VARIABLE_DELETE.now
places form.Next = NEXT.now

-- the numbers from 1 to one, and from one to another, which is not below it
abbrev pub loop_to : List (List ℕ) → Result LoopRange WordRefusal
loop_to words = then (whole 3 1 MAX_LOOP words) (λ n. Ok record { first = 1; last = n })

abbrev pub loop_range : List (List ℕ) → Result LoopRange WordRefusal
loop_range words =
    then (whole 3 0 MAX_LOOP words) (λ a. then (whole 4 0 MAX_LOOP words) (λ b.
    cond (nat_le a b) (Ok record { first = a; last = b }) (Err (BadValue 4))))

abbrev pub new_variable : VariableStyle → List (List ℕ) → Command
new_variable becomes words = command.Variable record { name = word 1 words; style = becomes }

abbrev pub loop_of : Result LoopRange WordRefusal → List (List ℕ) → Result Command WordRefusal
loop_of range words = then range (λ r. Ok (new_variable (style.Loop r) words))

-- the command of the words of a form
abbrev pub make : VariablesForm → List (List ℕ) → Result Command WordRefusal
make form.VariableIndex words = Ok (new_variable (style.Index (drop 3 words)) words)
make form.VariableLoop words = loop_of (loop_to words) words
make form.VariableLoopRange words = loop_of (loop_range words) words
make form.VariableEqual words = Ok (new_variable (style.Equal (word 3 words)) words)
make form.VariableAtom words = Ok (new_variable (style.Atom (word 3 words)) words)
make form.VariableString words = Ok (new_variable (style.Plain (word 3 words)) words)
make form.VariableDelete words = Ok (new_variable style.Delete words)
make form.Next words = Ok (command.Next (drop 1 words))
