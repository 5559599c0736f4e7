-- How a line is cut byte by byte.
use Rattle.std.proofs.Common.{◌≡◌, ℕ, Bool, false, List, [], ◌∷◌, ◌++◌, Option, Some, None, Result, Ok, Err, refl, sym, ap, append_assoc, IfNone, option_to_list, unwrap_or}
use Rattle.script_lines.specs.declared.modes.Mode.{Mode}
use Rattle.script_lines.specs.declared.refusals.LineRefusal.{LineRefusal}
use Rattle.script_lines.specs.declared.words.RawWord.{RawWord}
use Rattle.script_lines.specs.Modes.{closes, next}
use Rattle.script_lines.specs.Words.{with_words, word_behind, words_between, words_from}

with_words-with_words : (a b : List RawWord) (r : Result (List RawWord) LineRefusal) → with_words a (with_words b r) ≡ with_words (a ++ b) r
with_words-with_words a b (Ok more) = ap (λ ws. Ok ws) (sym (append_assoc a b more))
with_words-with_words a b (Err why) = refl

-- one byte further
pub cut_more : (number : ℕ) (m after : Mode) (word word' : List ℕ) (words words' : List RawWord) (c : ℕ) (closed : Bool) (rest : List ℕ)
    → closed ≡ closes rest → after ≡ next m c closed → word' ≡ word_behind m after c word → words' ≡ words ++ words_between m after word
    → with_words words' (words_from number after word' rest) ≡ with_words words (words_from number m word (c ∷ rest))
cut_more number m after word word' words words' c closed rest e a w ws =
    rw (ws, w, a, e) (sym (with_words-with_words words _ _))

-- the flag at the top
pub popped : (flags new : List Bool) (o : Option Bool) (b : Bool) (rest : List Bool)
    → flags ≡ option_to_list o ++ new → IfNone o (flags ≡ []) → flags ≡ b ∷ rest → (unwrap_or o false ≡ b) × (new ≡ rest)
popped flags new (Some x) b rest top none is = (cc, cc)
popped flags new None b rest top none is = (cc, cc)
