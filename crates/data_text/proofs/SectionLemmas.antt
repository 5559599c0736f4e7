-- Sections from their titles and rows, and a file from its sections.
use Rattle.std.proofs.Common.{◌≡◌, ◌∙◌, ◌<◌, ◌++◌, ◌∷◌, [], Bool, true, false, cond, List, ℕ, length, map, ap, sym, append_assoc, append-nil, arith}
use Rattle.std.proofs.lemmas.Grind.{flat_map-append}
use Rattle.data_text.specs.DataText.{line_text, lines_text, section_lines}

pub section_is : {X : Type 0} → (title : List ℕ) (row : X → List ℕ) (xs : List X) (t head new : List ℕ)
    → 0 < length xs → head ≡ t ++ lines_text ([] ∷ title ∷ [] ∷ []) → new ≡ head ++ lines_text (map row xs)
    → new ≡ t ++ lines_text (section_lines title (map row xs))
section_is title row [] t head new some titled pushed = absurd (omega arith)
section_is title row (x ∷ xs) t head new some titled pushed =
    let rows = row x ∷ map row xs in
    pushed
    ∙ ap (λ (s : List ℕ). s ++ lines_text rows) titled
    ∙ append_assoc t (lines_text ([] ∷ title ∷ [] ∷ [])) (lines_text rows)
    ∙ ap (λ (s : List ℕ). t ++ s) (sym (flat_map-append line_text ([] ∷ title ∷ [] ∷ []) rows))

pub section_none : {X : Type 0} → (title : List ℕ) (row : X → List ℕ) (xs : List X) (t : List ℕ)
    → length xs ≡ 0 → t ≡ t ++ lines_text (section_lines title (map row xs))
section_none title row [] t none = sym (append-nil t)
section_none title row (x ∷ xs) t none = absurd (omega arith)

-- a section whose rows are there on a condition
pub section_if : (b : Bool) (title : List ℕ) (rows : List (List ℕ)) (t new : List ℕ)
    → b ≡ true → new ≡ t ++ lines_text (section_lines title rows) → new ≡ t ++ lines_text (section_lines title (cond b rows []))
section_if true title rows t new met pushed = pushed
section_if false title rows t new met pushed = cc

pub section_unless : (b : Bool) (title : List ℕ) (rows : List (List ℕ)) (t : List ℕ)
    → b ≡ false → t ≡ t ++ lines_text (section_lines title (cond b rows []))
section_unless true title rows t met = cc
section_unless false title rows t met = sym (append-nil t)

-- more lines behind those that there are
pub more_lines : (lines more : List (List ℕ)) (text new : List ℕ) → new ≡ text ++ lines_text more → text ≡ lines_text lines → new ≡ lines_text (lines ++ more)
more_lines lines more text new pushed e =
    pushed ∙ ap (λ (t : List ℕ). t ++ lines_text more) e ∙ sym (flat_map-append line_text lines more)
