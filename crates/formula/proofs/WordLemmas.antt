-- A search through the list of words, one by one.
use Rattle.std.proofs.Common.{◌≡◌, ◌+◌, ◌<◌, ◌||◌, Bool, true, false, ℕ, suc, List, [], length, drop, get_or, refl, sym, ap, ◌∙◌, add-one, drop-cons}
use Rattle.std.specs.List.{list_any}
use Rattle.formula.specs.Words.{words, keywords}

from_here : (test : List ℕ → Bool) (xs : List (List ℕ)) (i : ℕ) → i < length xs → list_any test (drop i xs) ≡ (test (get_or xs i []) || list_any test (drop (suc i) xs))
from_here test xs i below = rw (drop-cons xs i []) refl

pub any_here : (test : List ℕ → Bool) (xs : List (List ℕ)) (i : ℕ) → i < length xs → test (get_or xs i []) ≡ true → list_any test (drop i xs) ≡ true
any_here test xs i below found = from_here test xs i below ∙ ap (λ b. b || list_any test (drop (suc i) xs)) found

pub any_next : (test : List ℕ → Bool) (xs : List (List ℕ)) (i : ℕ) → i < length xs → test (get_or xs i []) ≡ false → list_any test (drop (i + 1) xs) ≡ list_any test (drop i xs)
any_next test xs i below missed = rw add-one (sym (from_here test xs i below ∙ ap (λ b. b || list_any test (drop (suc i) xs)) missed))

pub length-words : length words ≡ 29
unfolding words keywords
length-words = refl

pub drop-words : drop 29 words ≡ []
unfolding words keywords
drop-words = refl

pub drop-functions : drop 5 words ≡ keywords
unfolding words
drop-functions = refl

pub none_left : (test : List ℕ → Bool) (i : ℕ) → i ≡ 29 → list_any test (drop i words) ≡ false
none_left test i end = ap (λ (k : ℕ). list_any test (drop k words)) end ∙ ap (list_any test) drop-words
