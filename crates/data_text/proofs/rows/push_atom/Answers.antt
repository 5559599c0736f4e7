use Rattle.std.proofs.Common.{◌∙◌, ◌++◌, ◌∷◌, [], List, ℕ, ap}
use Rattle.std.specs.Fmt.{decimal}
use Rattle.data_text.specs.DataText.{atom_row, image_words, molecule_words, spaced, vector_words}
use Rattle.data_text.proofs.RowLemmas.{atom_row_is}
use Rattle.data_text.proofs.rows.push_atom.Goals as goal

pub returns : goal.returns
unfolding atom_row
returns c =
    let a = c.args.atom.now in
    let mol = molecule_words c.args.style a in
    c.in_ok-push.ensures.appended
    ∙ ap (λ (t : List ℕ). t ++ 10 ∷ []) (c.in_ok-push_images.ensures
    ∙ ap (λ (t : List ℕ). t ++ spaced (image_words a.image)) (c.in_ok-push_vector.ensures
    ∙ ap (λ (t : List ℕ). t ++ spaced (vector_words a.x)) (c.in_ok-push_next_whole.ensures
    ∙ ap (λ (n : ℕ). c.push_molecule.new.text ++ 32 ∷ decimal n) c.from-2.ensures
    ∙ ap (λ (t : List ℕ). t ++ 32 ∷ decimal a.kind) (c.in_ok-push_molecule.ensures
    ∙ ap (λ (t : List ℕ). t ++ spaced mol) (c.in_ok-push_whole.ensures
    ∙ ap (λ (n : ℕ). c.args.text.now ++ decimal n) c.from.ensures)))))
    ∙ atom_row_is c.args.text.now (decimal a.id) (decimal a.kind) mol (vector_words a.x) (image_words a.image)
