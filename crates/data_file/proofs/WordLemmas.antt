-- The first word of a line, by the place of the first blank.
use Rattle.std.proofs.Common.{◌≡◌, ◌∙◌, ◌+◌, ◌<◌, ◌≤◌, ℕ, suc, Bool, true, false, not, cond, List, [], ◌∷◌, ◌++◌, length, take, drop, refl, ap, append_assoc, append-nil, length-take, arith}
use Rattle.std.specs.List.{prefix_len}
use Rattle.data_file.specs.Words.{ended_word, is_blank, is_word_byte, word_with, words_behind, words_of}

-- how far the first blank is, or the length
abbrev word_len : List ℕ → ℕ
word_len line = prefix_len is_word_byte line

abbrev len_by : Bool → List ℕ → ℕ
len_by blank line = cond (not blank) (1 + word_len line) 0

split_by : (blank : Bool) (word : List ℕ) (c : ℕ) (line : List ℕ)
    → ((word : List ℕ) → words_behind word line ≡ ended_word true (word ++ take (word_len line) line) ++ words_behind [] (drop (word_len line) line))
    → (blank ≡ true → words_behind [] (c ∷ line) ≡ words_behind [] line)
    → ended_word blank word ++ words_behind (word_with blank word c) line ≡ ended_word true (word ++ take (len_by blank line) (c ∷ line)) ++ words_behind [] (drop (len_by blank line) (c ∷ line))
split_by true word c line rest blank = rw (append-nil word, blank refl) refl
split_by false word c line rest blank =
    let k : 1 + word_len line ≡ suc (word_len line) = omega arith in
    rw k (rest (word ++ c ∷ []) ∙ ap (λ w. ended_word true w ++ words_behind [] (drop (word_len line) line)) (append_assoc word (c ∷ []) (take (word_len line) line)))

blank_first : (b : Bool) (c : ℕ) (line : List ℕ) → b ≡ true → ended_word b [] ++ words_behind (word_with b [] c) line ≡ words_behind [] line
blank_first true c line e = refl
blank_first false c line e = absurd cc

words_behind-split : (word line : List ℕ) → words_behind word line ≡ ended_word true (word ++ take (word_len line) line) ++ words_behind [] (drop (word_len line) line)
words_behind-split word [] = rw (append-nil word, append-nil (ended_word true word)) refl
words_behind-split word (c ∷ line) = split_by (is_blank c) word c line (λ w. words_behind-split w line) (blank_first (is_blank c) c line)

-- a blank at the front
pub words_blank : (c : ℕ) (line : List ℕ) → is_blank c ≡ true → words_of (c ∷ line) ≡ words_of line
unfolding words_of
words_blank c line e = blank_first (is_blank c) c line e

ended_front : (w : List ℕ) (ws : List (List ℕ)) → 0 < length w → ended_word true w ++ ws ≡ w ∷ ws
ended_front [] ws some = absurd (omega arith)
ended_front (c ∷ w) ws some = refl

some_taken : (n : ℕ) (line : List ℕ) → 0 < n → n ≤ length line → 0 < length (take n line)
some_taken n line some few = simp length-take (omega arith)

-- the first word, which begins at once
pub words_first : (line : List ℕ) → 0 < word_len line → word_len line ≤ length line → words_of line ≡ take (word_len line) line ∷ words_of (drop (word_len line) line)
unfolding words_of
words_first line some few = words_behind-split [] line ∙ ended_front (take (word_len line) line) (words_behind [] (drop (word_len line) line)) (some_taken (word_len line) line some few)

pub words_none : words_of [] ≡ []
unfolding words_of
words_none = refl
