-- Control flow.
use Rattle.std.specs.Prelude.{◌++◌, Bool, not, cond, ℕ, Option, Some, None, List, [], ◌∷◌, drop, take}
use Rattle.std.specs.List.{prefix_len}
use Rattle.std.specs.Str.{bytes_eq}
use Rattle.command_words.specs.Values.{is_word, word}
use Rattle.command_words.specs.Vocabulary.{text_of}
use Rattle.command_words.specs.declared.flow.Branch.{Branch}
use Rattle.command_words.specs.declared.flow.Choice.{Choice}
use Rattle.command_words.specs.declared.vocabulary.Word.{Word}
use Rattle.command_words.specs.declared.vocabulary.Word.TheVariants as name
use Rattle.command_words.specs.declared.flow.FlowForm.{FlowForm}
use Rattle.command_words.specs.declared.flow.FlowForm.TheVariants as form
use Rattle.command_words.specs.declared.flow.TheConstants.{LABEL, JUMP, JUMP_LABEL, INCLUDE, IF}
use Rattle.command_words.specs.declared.places.Place.{Place}
use Rattle.command_words.specs.declared.command.Command.{Command}
use Rattle.command_words.specs.declared.command.Command.TheVariants as command

-- the places of a form
abbrev pub places : FlowForm → List Place
places form.Label = LABEL.now
places form.Jump = JUMP.now
places form.JumpLabel = JUMP_LABEL.now
places form.Include = INCLUDE.now
places form.If = IF.now

-- the file of `jump`; none for `SELF`
abbrev pub jump_file : List (List ℕ) → Option (List ℕ)
jump_file words = cond (is_word name.SELF 1 words) None (Some (word 1 words))

abbrev pub jump_in : List (List ℕ) → Command
jump_in words = command.Jump record { file = jump_file words; label = None }

abbrev pub jump_label : List (List ℕ) → Command
jump_label words = command.Jump record { file = jump_file words; label = Some (word 2 words) }

-- The parts of `if`: the words behind a condition are its commands, up to an `elif`, behind which the next condition stands.
abbrev pub is_other : Word → List ℕ → Bool
is_other wanted text = not (bytes_eq text (text_of wanted))

abbrev pub branches_from : Option (List ℕ) → List (List ℕ) → List (List ℕ) → List Branch
branches_from None commands [] = []
branches_from (Some condition) commands [] = record { condition = condition; commands = commands } ∷ []
branches_from None commands (text ∷ words) = branches_from (Some text) [] words
branches_from (Some condition) commands (text ∷ words) =
    cond (is_other name.Elif text) (branches_from (Some condition) (commands ++ text ∷ []) words)
    (record { condition = condition; commands = commands } ∷ branches_from None [] words)

-- the branches behind the commands of one: those from its `elif` on
abbrev pub branches_behind : List (List ℕ) → List Branch
branches_behind [] = []
branches_behind (text ∷ words) = branches_from None [] words

-- the words behind `then` up to `else`, and from it on
abbrev pub before_else : List (List ℕ) → List (List ℕ)
before_else words = take (prefix_len (is_other name.Else) words) words

abbrev pub from_else : List (List ℕ) → List (List ℕ)
from_else words = drop (prefix_len (is_other name.Else) words) words

abbrev pub choice_in : List (List ℕ) → Choice
choice_in words =
    record { branches = branches_from (Some (word 1 words)) [] (before_else (drop 3 words)); otherwise = drop 1 (from_else (drop 3 words)) }

-- the command of the words of a form
abbrev pub make : FlowForm → List (List ℕ) → Command
make form.Label words = command.Label (word 1 words)
make form.Jump words = jump_in words
make form.JumpLabel words = jump_label words
make form.Include words = command.Include (word 1 words)
make form.If words = command.If (choice_in words)
