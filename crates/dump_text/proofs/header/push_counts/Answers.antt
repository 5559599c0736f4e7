use Rattle.std.proofs.Common.{◌∙◌, ◌++◌, List, ℕ, ap, codes}
use Rattle.std.specs.Fmt.{decimal}
use Rattle.dump_text.proofs.HeaderLemmas.{counts_are}
use Rattle.dump_text.proofs.header.push_counts.Goals as goal

pub returns : goal.returns
returns c =
    let step = decimal c.args.step in
    let count = decimal c.args.count in
    c.in_ok-push-3.ensures.appended
    ∙ ap (λ (t : List ℕ). t ++ codes "\n") (c.in_ok-push_whole-2.ensures
    ∙ ap (λ (t : List ℕ). t ++ count) (c.in_ok-push-2.ensures.appended
    ∙ ap (λ (t : List ℕ). t ++ codes "\nITEM: NUMBER OF ATOMS\n") (c.in_ok-push_whole.ensures
    ∙ ap (λ (t : List ℕ). t ++ step) c.in_ok-push.ensures.appended)))
    ∙ counts_are c.args.text.now step count
