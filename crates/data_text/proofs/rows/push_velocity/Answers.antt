use Rattle.std.proofs.Common.{◌∙◌, ◌++◌, ◌∷◌, [], List, ℕ, ap}
use Rattle.std.specs.Fmt.{decimal}
use Rattle.data_text.specs.DataText.{spaced, vector_words, velocity_row}
use Rattle.data_text.proofs.RowLemmas.{row_is}
use Rattle.data_text.proofs.rows.push_velocity.Goals as goal

pub returns : goal.returns
unfolding velocity_row
returns c =
    let a = c.args.atom.now in
    c.in_ok-push.ensures.appended
    ∙ ap (λ (t : List ℕ). t ++ 10 ∷ []) (c.in_ok-push_vector.ensures
    ∙ ap (λ (t : List ℕ). t ++ spaced (vector_words a.v)) (c.in_ok-push_whole.ensures
    ∙ ap (λ (n : ℕ). c.args.text.now ++ decimal n) c.from.ensures))
    ∙ row_is c.args.text.now (decimal a.id) (vector_words a.v)
