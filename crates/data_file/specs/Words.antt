-- The words of a line: a comment is dropped, and blanks part words.
use Rattle.std.specs.Prelude.{◌==◌, ◌||◌, Bool, true, false, not, ℕ, List, [], ◌∷◌, ◌++◌, slice_index_or, take}
use Rattle.std.specs.List.{prefix_len}

-- a space or a tab
abbrev pub is_blank : ℕ → Bool
is_blank c = (c == 32) || (c == 9)

abbrev pub is_word_byte : ℕ → Bool
is_word_byte c = not (is_blank c)

-- a byte that begins no comment
abbrev pub is_plain_byte : ℕ → Bool
is_plain_byte c = not (c == 35)

-- a line without its comment, which `#` begins
unfoldable pub without_comment : List ℕ → List ℕ
without_comment line = take (prefix_len is_plain_byte line) line

-- the word that a byte ends, if it is a blank
abbrev pub ended_word : Bool → List ℕ → List (List ℕ)
ended_word true [] = []
ended_word true (c ∷ word) = (c ∷ word) ∷ []
ended_word false word = []

-- the bytes of the word behind a byte, which a blank begins anew
abbrev pub word_with : Bool → List ℕ → ℕ → List ℕ
word_with true word c = []
word_with false word c = word ++ c ∷ []

-- the words of a line behind these bytes of a word
abbrev pub words_behind : List ℕ → List ℕ → List (List ℕ)
words_behind word [] = ended_word true word
words_behind word (c ∷ line) = ended_word (is_blank c) word ++ words_behind (word_with (is_blank c) word c) line

-- the words of a line
unfoldable pub words_of : List ℕ → List (List ℕ)
words_of line = words_behind [] line

-- the word at a place from 0, no bytes where there is none
unfoldable pub word : ℕ → List (List ℕ) → List ℕ
word k words = slice_index_or words k []
