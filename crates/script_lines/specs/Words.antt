-- The words of a logical line.
use Rattle.std.specs.Prelude.{◌≡◌, ◌==◌, ◌||◌, Bool, true, false, cond, ℕ, Option, Some, None, Result, Ok, Err, List, [], ◌∷◌, ◌++◌}
use Rattle.script_lines.specs.declared.modes.Mode.{Mode}
use Rattle.script_lines.specs.declared.modes.Mode.TheVariants.{Between, Word, Dollar, Formula, Single, Opened, Double, Doubled, Triple, Closed, Torn, Comment}
use Rattle.script_lines.specs.declared.refusals.LineRefusal.{LineRefusal}
use Rattle.script_lines.specs.declared.refusals.LineRefusal.TheVariants.{UnclosedQuote, ContinuationAtEnd, QuoteTail, NoMemory}
use Rattle.script_lines.specs.declared.words.RawWord.{RawWord}
use Rattle.script_lines.specs.Modes.{closes, next}

-- between words or in a comment
abbrev pub is_outside : Mode → Bool
is_outside Between = true
is_outside Comment = true
is_outside _ = false

-- whether a word that ends in a mode is quoted, if one does
abbrev pub quoted_at : Mode → Option Bool
quoted_at Word = Some false
quoted_at Dollar = Some false
quoted_at (Formula depth) = Some false
quoted_at Doubled = Some true
quoted_at Closed = Some true
quoted_at _ = None

abbrev pub word_if : Option Bool → List ℕ → List RawWord
word_if (Some quoted) word = record { quoted = quoted; text = word } ∷ []
word_if None word = []

-- the word that ends in a mode, from its bytes
abbrev pub word_at : Mode → List ℕ → List RawWord
word_at m word = word_if (quoted_at m) word

-- quotes behind which triple quotes did not close
abbrev pub marks_of : ℕ → List ℕ
marks_of marks = cond (marks == 0) [] (cond (marks == 1) (34 ∷ []) (34 ∷ 34 ∷ []))

-- what a byte adds to the word that it stands in: the marks around a quoted word are no part of it
abbrev pub unless : Bool → List ℕ → List ℕ
unless mark added = cond mark [] added

abbrev pub added : Mode → ℕ → List ℕ
added Between c = unless ((c == 34) || (c == 39)) (c ∷ [])
added Word c = c ∷ []
added Dollar c = c ∷ []
added (Formula depth) c = c ∷ []
added Single c = unless (c == 39) (c ∷ [])
added Opened c = unless (c == 34) (c ∷ [])
added Double c = unless (c == 34) (c ∷ [])
added (Triple marks) c = unless (c == 34) (marks_of marks ++ c ∷ [])
added _ c = []

-- the words that end between two modes, and the bytes of the word behind a byte
abbrev pub words_between : Mode → Mode → List ℕ → List RawWord
words_between m after word = cond (is_outside after) (word_at m word) []

abbrev pub word_behind : Mode → Mode → ℕ → List ℕ → List ℕ
word_behind m after c word = cond (is_outside after) [] (word ++ added m c)

abbrev pub with_words : List RawWord → Result (List RawWord) LineRefusal → Result (List RawWord) LineRefusal
with_words words (Ok more) = Ok (words ++ more)
with_words words (Err why) = Err why

-- the last word of a line, or what is wrong with its quotes
abbrev pub last_words : ℕ → Mode → List ℕ → Result (List RawWord) LineRefusal
last_words number Torn word = Err (QuoteTail number)
last_words number Single word = Err (UnclosedQuote number)
last_words number Opened word = Err (UnclosedQuote number)
last_words number Double word = Err (UnclosedQuote number)
last_words number (Triple marks) word = Err (UnclosedQuote number)
last_words number m word = Ok (word_at m word)

-- the words of a line from a byte on, from the mode there and the bytes of the word so far
abbrev pub words_from : ℕ → Mode → List ℕ → List ℕ → Result (List RawWord) LineRefusal
words_from number m word [] = last_words number m word
words_from number m word (c ∷ line) =
    with_words (words_between m (next m c (closes line)) word)
    (words_from number (next m c (closes line)) (word_behind m (next m c (closes line)) c word) line)

-- the words of the logical line of this number
abbrev pub line_words : ℕ → List ℕ → Result (List RawWord) LineRefusal
line_words number line = words_from number Between [] line

-- a refusal is the one of a definition; want of memory may come wherever
abbrev pub IsRefusal : {X : Type 0} → LineRefusal → Result X LineRefusal → Type 0
IsRefusal (UnclosedQuote number) meant = meant ≡ Err (UnclosedQuote number)
IsRefusal (ContinuationAtEnd number) meant = meant ≡ Err (ContinuationAtEnd number)
IsRefusal (QuoteTail number) meant = meant ≡ Err (QuoteTail number)
IsRefusal NoMemory meant = Unit {0}
