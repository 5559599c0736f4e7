-- How the bytes of a logical line are read, one by one: which stand in a word, in quotes, in a comment.
use Rattle.std.specs.Prelude.{◌+◌, ◌-◌, ◌==◌, ◌&&◌, ◌||◌, Bool, true, false, cond, nat_lt, nat_le, ℕ, List, [], ◌∷◌}
use Rattle.script_lines.specs.declared.modes.Mode.{Mode}
use Rattle.script_lines.specs.declared.modes.Mode.TheVariants.{Between, Word, Dollar, Formula, Single, Opened, Double, Doubled, Triple, Closed, Torn, Comment}

-- a space or a tab
abbrev pub is_blank : ℕ → Bool
is_blank c = (c == 32) || (c == 9)

-- how many closing parentheses before the first `#` of a text have no opening one in it
abbrev pub surplus_before : ℕ → ℕ → ℕ
surplus_before c n = cond (c == 41) (n + 1) (cond (c == 40) (n - 1) (cond (c == 35) 0 n))

abbrev pub surplus : List ℕ → ℕ
surplus [] = 0
surplus (c ∷ text) = surplus_before c (surplus text)

-- whether a parenthesis that opens before a text has its closing one there, before a comment
abbrev pub closes : List ℕ → Bool
closes text = nat_le 1 (surplus text)

-- a byte of an unquoted word, or the one that ends it
abbrev pub in_word : ℕ → Mode
in_word c = cond (is_blank c) Between (cond (c == 35) Comment (cond (c == 36) Dollar Word))

-- a byte between words: a quote opens only at the start of a word
abbrev pub at_start : ℕ → Mode
at_start c = cond (c == 34) Opened (cond (c == 39) Single (in_word c))

-- a byte behind a closing mark: a blank or a comment
abbrev pub behind_mark : ℕ → Mode
behind_mark c = cond (is_blank c) Between (cond (c == 35) Comment Torn)

-- a byte in `$( )`, which ends with the last open parenthesis
abbrev pub in_formula : ℕ → ℕ → Mode
in_formula depth c =
    cond (c == 40) (Formula (depth + 1)) (cond (c == 41) (cond (nat_le depth 1) Word (Formula (depth - 1))) (Formula depth))

-- how a line goes on behind a byte. `closed` tells whether a parenthesis that opens here has its closing one
abbrev pub next : Mode → ℕ → Bool → Mode
next Between c closed = at_start c
next Word c closed = in_word c
next Dollar c closed = cond ((c == 40) && closed) (Formula 1) (in_word c)
next (Formula depth) c closed = in_formula depth c
next Single c closed = cond (c == 39) Closed Single
next Opened c closed = cond (c == 34) Doubled Double
next Double c closed = cond (c == 34) Closed Double
next Doubled c closed = cond (c == 34) (Triple 0) (behind_mark c)
next (Triple marks) c closed = cond (c == 34) (cond (nat_lt marks 2) (Triple (marks + 1)) Closed) (Triple 0)
next Closed c closed = behind_mark c
next Torn c closed = Torn
next Comment c closed = Comment

-- how a line goes on behind a text
abbrev pub mode_after : Mode → List ℕ → Mode
mode_after m [] = m
mode_after m (c ∷ text) = mode_after (next m c (closes text)) text

-- in triple quotes
abbrev pub is_triple : Mode → Bool
is_triple (Triple marks) = true
is_triple _ = false

-- in `$( )`
abbrev pub is_formula : Mode → Bool
is_formula (Formula depth) = true
is_formula _ = false

-- how many parentheses of a `$(` are open
abbrev pub depth_of : Mode → ℕ
depth_of (Formula depth) = depth
depth_of _ = 0

-- for each byte of a text, whether a parenthesis that opens there has its closing one
abbrev pub closings : List ℕ → List Bool
closings [] = []
closings (c ∷ text) = closes text ∷ closings text
