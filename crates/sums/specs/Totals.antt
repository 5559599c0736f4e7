-- Sums of whole numbers over a list, and the unordered pairs of a list.
use Rattle.std.specs.Prelude.{ℕ, ℤ, pos, ◌+ℤ◌, neg_ℤ, List, [], ◌∷◌, ◌++◌, map, ◌==◌, if◌then◌else◌}

-- the sum of f over the list
abbrev pub total : {X : Type 0} → (X → ℤ) → List X → ℤ
total f [] = pos 0
total f (x ∷ xs) = f x +ℤ total f xs

-- each unordered pair of places once, the earlier place first
abbrev pub half : {X : Type 0} → List X → List (X × X)
half [] = []
half (x ∷ xs) = map (λ y. (x, y)) xs ++ half xs

-- what an add, a word and a number, brings to a word
abbrev pub into : ℕ → ℕ × ℤ → ℤ
into word add = if add.0 == word then add.1 else pos 0

-- f of the elements with this key, 0 of the others
abbrev pub at_key : {X : Type 0} → (X → ℕ) → ℕ → (X → ℤ) → X → ℤ
at_key key k f x = if key x == k then f x else pos 0

-- the two adds of a pair: its term to the word of the first, the negative to the word of the second
abbrev pub opposite_adds : {X : Type 0} → (X → ℕ) → (X → X → ℤ) → X × X → List (ℕ × ℤ)
opposite_adds word term pair = (word pair.0, term pair.0 pair.1) ∷ (word pair.1, neg_ℤ (term pair.0 pair.1)) ∷ []
