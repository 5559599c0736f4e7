-- The parts of `if`: `C then W.. [elif C W..].. [else W..]`, where `elif` and `else` begin a part wherever they stand.
use Rattle.std.specs.Prelude.{◌||◌, ◌+◌, Bool, true, false, cond, ℕ, Option, Some, None, List, [], ◌∷◌, length}
use Rattle.std.specs.Str.{bytes_eq}
use Rattle.command_words.specs.Vocabulary.{text_of}
use Rattle.command_words.specs.declared.vocabulary.Word.TheVariants.{Then as then_word, Elif, Else}
use Rattle.command_words.specs.declared.branches.Part.{Part}
use Rattle.command_words.specs.declared.branches.Part.TheVariants as part

-- a word that begins a part
abbrev pub is_part : List ℕ → Bool
is_part text = bytes_eq text (text_of Elif) || bytes_eq text (text_of Else)

abbrev pub unless_part : Part → List ℕ → Option Part
unless_part p text = cond (is_part text) None (Some p)

-- what follows a command of `if` or `elif`, or the word in its place
abbrev pub after_command : List ℕ → Part
after_command text = cond (bytes_eq text (text_of Elif)) part.Other (cond (bytes_eq text (text_of Else)) part.Last part.More)

-- what may follow a word, if the word may stand here
abbrev pub next : Part → List ℕ → Option Part
next part.Condition text = unless_part part.Then text
next part.Then text = cond (bytes_eq text (text_of then_word)) (Some part.First) None
next part.First text = unless_part part.More text
next part.More text = Some (after_command text)
next part.Other text = unless_part part.First text
next part.Last text = unless_part part.Rest text
next part.Rest text = unless_part part.Rest text

-- the words may end here: a command stands last
abbrev pub is_whole : Part → Bool
is_whole part.Condition = false
is_whole part.Then = false
is_whole part.First = false
is_whole part.More = true
is_whole part.Other = false
is_whole part.Last = false
is_whole part.Rest = true

-- how many words are left where the words from a place on are not those parts
abbrev pub go_on : Option Part → (Part → Option ℕ) → ℕ → Option ℕ
go_on None rest left = Some left
go_on (Some p) rest left = rest p

abbrev pub stuck_from : List (List ℕ) → Part → Option ℕ
stuck_from [] p = cond (is_whole p) None (Some 0)
stuck_from (word ∷ words) p = go_on (next p word) (stuck_from words) (length words + 1)

abbrev pub stuck_branches : List (List ℕ) → Option ℕ
stuck_branches words = stuck_from words part.Condition
