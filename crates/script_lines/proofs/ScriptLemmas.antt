-- The first line of a script, and the places of a text.
use Rattle.std.proofs.Common.{◌≡◌, ◌∙◌, ◌+◌, ◌-◌, ◌<◌, ◌≤◌, ℕ, List, [], ◌∷◌, Option, Some, Ok, length, take, drop, refl, sym, ap, length-drop, length-take, arith}
use Rattle.std.proofs.lemmas.List.{drop-drop, take-append-drop}
use Rattle.script_lines.specs.declared.words.RawWord.{RawWord}
use Rattle.script_lines.specs.Joining.{Passes, logical, logical_lines}
use Rattle.script_lines.specs.Physical.{feeds, physical_lines}
use Rattle.script_lines.specs.Script.{script_at, script_from, script_of, with_line}
use Rattle.script_lines.specs.Words.{line_words}
use Rattle.script_lines.proofs.PhysicalLemmas.{feeds-append, feeds_bound}

feeds-parts : (k : ℕ) (text : List ℕ) → feeds (take k text) + feeds (drop k text) ≡ feeds text
feeds-parts k text = sym (feeds-append (take k text) (drop k text)) ∙ ap feeds (take-append-drop k text)

-- so many lines are before a place at most
pub place_bound : (text after : List ℕ) (at ended passed : ℕ) → ended ≡ feeds (take at text) → Passes (drop at text) after ended passed → passed + length after ≤ length text
place_bound text after at ended passed counted p =
    omega (arith, p.bound, feeds_bound (take at text), length-take at text, length-drop at text)

pub place_drop : (text after : List ℕ) (at ended passed : ℕ) → at ≤ length text → Passes (drop at text) after ended passed → drop (length text - length after) text ≡ after
place_drop text after at ended passed within p =
    let n : at + (length (drop at text) - length after) ≡ length text - length after = omega (arith, p.shorter, length-drop at text) in
    sym (p.suffix ∙ drop-drop (length (drop at text) - length after) at text ∙ ap (λ k. drop k text) n)

pub place_feeds : (text after : List ℕ) (at ended passed : ℕ) → at ≤ length text → ended ≡ feeds (take at text) → Passes (drop at text) after ended passed
    → passed ≡ feeds (take (length text - length after) text)
place_feeds text after at ended passed within counted p =
    let k = length text - length after in
    omega (arith, p.counted, feeds-parts at text, feeds-parts k text, ap feeds (place_drop text after at ended passed within p))

-- a line with words, and the script behind it
pub next_script : (n m : ℕ) (rest after : List ℕ) (t : Option (List ℕ)) (joined : List ℕ) (words : List RawWord)
    → logical_lines n (physical_lines rest) ≡ logical n t ∷ logical_lines m (physical_lines after) → t ≡ Some joined → line_words n joined ≡ Ok words → 0 < length words
    → script_from n rest ≡ with_line n words (script_from m after)
next_script n m rest after t joined [] e is read some = absurd (omega arith)
next_script n m rest after t joined (word ∷ words) e is read some = ap script_of e ∙ rw (is, read) refl

pub script_beyond : (text after : List ℕ) (at ended passed : ℕ) → at ≤ length text → ended ≡ feeds (take at text) → Passes (drop at text) after ended passed
    → script_at text (length text - length after) ≡ script_from (passed + 1) after
script_beyond text after at ended passed within counted p =
    rw (← place_feeds text after at ended passed within counted p, place_drop text after at ended passed within p) refl
