-- The options of a form, one pair of words after another.
use Rattle.std.proofs.Common.{◌≡◌, ◌∙◌, ◌-◌, ◌≤◌, ◌∷◌, [], List, ℕ, Option, refl, drop, get_or, length, take, arith}
use Rattle.std.proofs.lemmas.List.{take_all}
use Rattle.command_words.specs.Values.{last_place, latest}
use Rattle.command_words.specs.declared.vocabulary.Word.{Word}

pair_by : (option : Word) (n : ℕ) (found place : Option ℕ) (w key : List ℕ) (rest more : List (List ℕ))
    → more ≡ take (length rest - 1) (drop 1 rest) → 1 ≤ length rest → key ≡ w → place ≡ latest found (n - length rest) option key
    → last_place option n place more ≡ last_place option n found (w ∷ rest)
pair_by option n found place w key [] more m h k p = absurd (omega arith)
pair_by option n found place w key (v ∷ words) more m h k p =
    let t : more ≡ words = m ∙ take_all (length (v ∷ words) - 1) words (omega arith) in
    rw (t, p, k) refl

-- with the first two words of those that are left, the last value is that of the others
pub last_place_pair : (option : Word) (n : ℕ) (found place : Option ℕ) (words after more : List (List ℕ)) (key : List ℕ)
    → after ≡ take (length words - 1) (drop 1 words) → more ≡ take (length after - 1) (drop 1 after) → 1 ≤ length words → 1 ≤ length after
    → key ≡ get_or words 0 key → place ≡ latest found (n - length after) option key
    → last_place option n place more ≡ last_place option n found words
last_place_pair option n found place [] after more key a m h i k p = absurd (omega arith)
last_place_pair option n found place (w ∷ rest) after more key a m h i k p =
    let t : after ≡ rest = a ∙ take_all (length (w ∷ rest) - 1) rest (omega arith) in
    pair_by option n found place w key rest more (rw t at m) (rw t at i) k (rw t at p)
