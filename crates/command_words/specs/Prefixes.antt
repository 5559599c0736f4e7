-- Words that begin a form, and the first word with which the words so far begin none.
use Rattle.std.specs.Prelude.{◌≡◌, ◌==◌, ◌+◌, ◌<◌, ◌≤◌, Bool, true, false, ℕ, Option, Some, None, List, length, take}
use Rattle.std.specs.List.{list_any}
use Rattle.std.specs.Option.{is_none}
use Rattle.command_words.specs.Forms.{places_of}
use Rattle.command_words.specs.Places.{stuck}
use Rattle.command_words.specs.Values.{word}
use Rattle.command_words.specs.Vocabulary.{text_of}
use Rattle.command_words.specs.declared.forms.Form.{Form}
use Rattle.command_words.specs.declared.forms.TheConstants.{FORMS}
use Rattle.command_words.specs.declared.vocabulary.Word.TheVariants.{Restart}

-- words are of a form: its places take all of them, and none is missing
abbrev pub have_form : List (List ℕ) → Form → Bool
have_form words f = is_none (stuck (places_of f) words)

-- words begin a form: its places take all of them, and more may be missing
abbrev pub is_taken : Option ℕ → Bool
is_taken None = true
is_taken (Some left) = left == 0

abbrev pub begin_form : List (List ℕ) → Form → Bool
begin_form words f = is_taken (stuck (places_of f) words)

-- the same of one of all forms
unfoldable pub have_a_form : List (List ℕ) → Bool
have_a_form words = list_any (have_form words) FORMS.now

unfoldable pub begin_a_form : List (List ℕ) → Bool
begin_a_form words = list_any (begin_form words) FORMS.now

-- words are of no form, the words before this place begin one, and with the word at this place they begin none; at the number of words a word is missing
pub record IsFirstBad (words : List (List ℕ)) (place : ℕ) : Type 0 where
  pub formless : have_a_form words ≡ false
  pub within : place ≤ length words
  pub before : begin_a_form (take place words) ≡ true
  pub there : place < length words → begin_a_form (take (place + 1) words) ≡ false

-- the words of `restart` name one file twice
pub record NamesOneFile (words : List (List ℕ)) (place : ℕ) : Type 0 where
  pub command : word 0 words ≡ text_of Restart
  pub same : word 3 words ≡ word 2 words
  pub there : place ≡ 3
