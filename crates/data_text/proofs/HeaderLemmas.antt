-- The lines before the sections, from the texts that they are pushed in.
use Rattle.std.proofs.Common.{◌≡◌, ◌∙◌, ◌++◌, ◌∷◌, [], List, ℕ, ap, sym, append_assoc}
use Rattle.std.proofs.lemmas.Grind.{flat_map-append}
use Rattle.data_text.specs.DataText.{line_text, lines_text}

parts : (t first empty a b box : List ℕ) → ((((t ++ first) ++ empty) ++ a) ++ b) ++ box ≡ t ++ (first ++ (empty ++ ((a ++ b) ++ box)))
parts t first empty a b box = simp append_assoc

pub header_is : (t first : List ℕ) (a b box : List (List ℕ))
    → ((((t ++ line_text first) ++ line_text []) ++ lines_text a) ++ lines_text b) ++ lines_text ([] ∷ box)
    ≡ t ++ lines_text (first ∷ [] ∷ a ++ b ++ [] ∷ box)
header_is t first a b box =
    parts t (line_text first) (line_text []) (lines_text a) (lines_text b) (lines_text ([] ∷ box))
    ∙ ap (λ (s : List ℕ). t ++ (line_text first ++ (line_text [] ++ (s ++ lines_text ([] ∷ box))))) (sym (flat_map-append line_text a b))
    ∙ ap (λ (s : List ℕ). t ++ (line_text first ++ (line_text [] ++ s))) (sym (flat_map-append line_text (a ++ b) ([] ∷ box)))
