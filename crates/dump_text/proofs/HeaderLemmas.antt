-- The lines before the rows, from the texts that they are pushed in.
use Rattle.std.proofs.Common.{◌≡◌, ◌∙◌, ◌++◌, ◌∷◌, [], List, ℕ, ap, codes, append_assoc}
use Rattle.dump_text.specs.Frame.{line_text, lines_text, words_text}

pub counts_are : (t step count : List ℕ)
    → ((((t ++ codes "ITEM: TIMESTEP\n") ++ step) ++ codes "\nITEM: NUMBER OF ATOMS\n") ++ count) ++ codes "\n"
    ≡ t ++ lines_text (codes "ITEM: TIMESTEP" ∷ step ∷ codes "ITEM: NUMBER OF ATOMS" ∷ count ∷ [])
counts_are t step count = simp append_assoc

pub boundaries_are : (t x y z : List ℕ)
    → ((((((t ++ codes "ITEM: BOX BOUNDS ") ++ x) ++ codes " ") ++ y) ++ codes " ") ++ z) ++ codes "\n"
    ≡ t ++ line_text (codes "ITEM: BOX BOUNDS " ++ words_text (x ∷ y ∷ z ∷ []))
boundaries_are t x y z = simp append_assoc

pub columns_are : (t words : List ℕ) → ((t ++ codes "ITEM: ATOMS ") ++ words) ++ codes "\n" ≡ t ++ line_text (codes "ITEM: ATOMS " ++ words)
columns_are t words = simp append_assoc

pub header_is : (t step count x lo mid hi columns : List ℕ)
    → ((t ++ lines_text (codes "ITEM: TIMESTEP" ∷ step ∷ codes "ITEM: NUMBER OF ATOMS" ∷ count ∷ [])) ++ lines_text (x ∷ lo ∷ mid ∷ hi ∷ [])) ++ line_text columns
    ≡ t ++ lines_text (codes "ITEM: TIMESTEP" ∷ step ∷ codes "ITEM: NUMBER OF ATOMS" ∷ count ∷ x ∷ lo ∷ mid ∷ hi ∷ columns ∷ [])
header_is t step count x lo mid hi columns = simp append_assoc

-- what was pushed is this text
pub pushed : (new old text word : List ℕ) → new ≡ old ++ text → text ≡ word → new ≡ old ++ word
pushed new old text word e same = e ∙ ap (λ (x : List ℕ). old ++ x) same
