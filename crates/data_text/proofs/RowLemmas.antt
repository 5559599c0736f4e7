-- Rows from their words, and texts of rows that are pushed one after another.
use Rattle.std.proofs.Common.{◌≡◌, ◌∙◌, ◌+◌, ◌<◌, ◌≤◌, ◌++◌, ◌∷◌, [], ℕ, List, length, map, drop, get_or, ap, sym, add-one, append_assoc, append-nil, drop-cons, arith}
use Rattle.std.specs.List.{enumerate_from}
use Rattle.std.proofs.lemmas.Grind.{common_steps, flat_map-append}
use Rattle.data_text.specs.DataText.{line_text, lines_text, spaced, words_text}

-- the words behind the first one each have their space
words_are : (word : List ℕ) (words : List (List ℕ)) → words_text (word ∷ words) ≡ word ++ spaced words
words_are word [] = sym (append-nil word)
words_are word (next ∷ words) = ap (λ (t : List ℕ). word ++ 32 ∷ t) (words_are next words)

parts_of_two : (t id words : List ℕ) → ((t ++ id) ++ words) ++ 10 ∷ [] ≡ t ++ ((id ++ words) ++ 10 ∷ [])
parts_of_two t id words = simp append_assoc

parts_of_five : (t id mol kind x image : List ℕ)
    → (((((t ++ id) ++ mol) ++ 32 ∷ kind) ++ x) ++ image) ++ 10 ∷ [] ≡ t ++ ((id ++ ((mol ++ 32 ∷ (kind ++ x)) ++ image)) ++ 10 ∷ [])
parts_of_five t id mol kind x image = simp append_assoc

-- a row of a word and others
pub row_is : (t id : List ℕ) (words : List (List ℕ)) → ((t ++ id) ++ spaced words) ++ 10 ∷ [] ≡ t ++ line_text (words_text (id ∷ words))
row_is t id words = parts_of_two t id (spaced words) ∙ ap (λ (w : List ℕ). t ++ (w ++ 10 ∷ [])) (sym (words_are id words))

-- a row of a word, perhaps a second one, a third one and others
pub atom_row_is : (t id kind : List ℕ) (mol x image : List (List ℕ))
    → (((((t ++ id) ++ spaced mol) ++ 32 ∷ kind) ++ spaced x) ++ spaced image) ++ 10 ∷ [] ≡ t ++ line_text (words_text (id ∷ mol ++ kind ∷ x ++ image))
atom_row_is t id kind mol x image =
    parts_of_five t id (spaced mol) kind (spaced x) (spaced image)
    ∙ ap (λ (w : List ℕ). t ++ ((id ++ (w ++ spaced image)) ++ 10 ∷ [])) (sym (flat_map-append (λ (word : List ℕ). 32 ∷ word) mol (kind ∷ x)))
    ∙ ap (λ (w : List ℕ). t ++ ((id ++ w) ++ 10 ∷ [])) (sym (flat_map-append (λ (word : List ℕ). 32 ∷ word) (mol ++ kind ∷ x) image))
    ∙ ap (λ (w : List ℕ). t ++ (w ++ 10 ∷ [])) (sym (words_are id (mol ++ kind ∷ x ++ image)))

here : {X : Type 0} → (xs : List X) (i : ℕ) (d : X) → i < length xs → drop i xs ≡ get_or xs i d ∷ drop (i + 1) xs
here xs i d h = rw add-one (drop-cons xs i d h)

none_left : {X : Type 0} → (xs : List X) (i : ℕ) → length xs ≤ i → drop i xs ≡ []
none_left xs i h = grind (arith, common_steps)

-- one more row
pub rows_more : {X : Type 0} → (row : X → List ℕ) (xs : List X) (i : ℕ) (d : X) (old new : List ℕ)
    → i < length xs → new ≡ old ++ line_text (row (get_or xs i d))
    → new ++ lines_text (map row (drop (i + 1) xs)) ≡ old ++ lines_text (map row (drop i xs))
rows_more {X} row xs i d old new h pushed =
    ap (λ (t : List ℕ). t ++ lines_text (map row (drop (i + 1) xs))) pushed
    ∙ append_assoc old (line_text (row (get_or xs i d))) (lines_text (map row (drop (i + 1) xs)))
    ∙ ap (λ (rest : List X). old ++ lines_text (map row rest)) (sym (here xs i d h))

-- no row is left
pub rows_end : {X : Type 0} → (row : X → List ℕ) (xs : List X) (i : ℕ) (text whole : List ℕ)
    → length xs ≤ i → text ++ lines_text (map row (drop i xs)) ≡ whole → text ≡ whole
rows_end {X} row xs i text whole h e =
    sym (append-nil text) ∙ ap (λ (rest : List X). text ++ lines_text (map row rest)) (sym (none_left xs i h)) ∙ e

-- one more row that is numbered
pub numbered_more : {X : Type 0} → (row : ℕ × X → List ℕ) (xs : List X) (i : ℕ) (d : X) (old new : List ℕ)
    → i < length xs → new ≡ old ++ line_text (row (i + 1, get_or xs i d))
    → new ++ lines_text (map row (enumerate_from (i + 1 + 1) (drop (i + 1) xs))) ≡ old ++ lines_text (map row (enumerate_from (i + 1) (drop i xs)))
numbered_more {X} row xs i d old new h pushed =
    let left = lines_text (map row (enumerate_from (i + 1 + 1) (drop (i + 1) xs))) in
    ap (λ (t : List ℕ). t ++ left) pushed
    ∙ append_assoc old (line_text (row (i + 1, get_or xs i d))) left
    ∙ ap (λ (rest : List X). old ++ lines_text (map row (enumerate_from (i + 1) rest))) (sym (here xs i d h))

pub numbered_end : {X : Type 0} → (row : ℕ × X → List ℕ) (xs : List X) (i : ℕ) (text whole : List ℕ)
    → length xs ≤ i → text ++ lines_text (map row (enumerate_from (i + 1) (drop i xs))) ≡ whole → text ≡ whole
numbered_end {X} row xs i text whole h e =
    sym (append-nil text) ∙ ap (λ (rest : List X). text ++ lines_text (map row (enumerate_from (i + 1) rest))) (sym (none_left xs i h)) ∙ e
