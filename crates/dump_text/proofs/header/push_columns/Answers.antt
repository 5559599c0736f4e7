use Rattle.std.proofs.Common.{◌∙◌, ◌++◌, List, ℕ, ap, codes, map}
use Rattle.dump_text.specs.Columns.{keyword_of}
use Rattle.dump_text.specs.Frame.{columns_text, words_text}
use Rattle.dump_text.proofs.HeaderLemmas.{columns_are}
use Rattle.dump_text.proofs.header.push_columns.Goals as goal

pub returns : goal.returns
unfolding columns_text
returns c =
    let words = words_text (map keyword_of c.args.columns.now) in
    c.in_ok-push-2.ensures.appended
    ∙ ap (λ (t : List ℕ). t ++ codes "\n") (c.in_ok-push_keywords.ensures
    ∙ ap (λ (t : List ℕ). t ++ words) c.in_ok-push.ensures.appended)
    ∙ columns_are c.args.text.now words
