use Rattle.std.proofs.Common.{◌∙◌, ◌++◌, List, ℕ, ap, codes}
use Rattle.dump_text.specs.Frame.{boundaries_text, boundary_text}
use Rattle.dump_text.proofs.HeaderLemmas.{boundaries_are, pushed}
use Rattle.dump_text.proofs.header.push_boundaries.Goals as goal

pub returns : goal.returns
unfolding boundaries_text
returns c =
    let s = c.args.sides.now in
    c.in_ok-push-7.ensures.appended
    ∙ ap (λ (t : List ℕ). t ++ codes "\n") (pushed _ _ _ (boundary_text s.z) c.in_ok-push-6.ensures.appended c.boundary-3.ensures
    ∙ ap (λ (t : List ℕ). t ++ boundary_text s.z) (c.in_ok-push-5.ensures.appended
    ∙ ap (λ (t : List ℕ). t ++ codes " ") (pushed _ _ _ (boundary_text s.y) c.in_ok-push-4.ensures.appended c.boundary-2.ensures
    ∙ ap (λ (t : List ℕ). t ++ boundary_text s.y) (c.in_ok-push-3.ensures.appended
    ∙ ap (λ (t : List ℕ). t ++ codes " ") (pushed _ _ _ (boundary_text s.x) c.in_ok-push-2.ensures.appended c.boundary.ensures
    ∙ ap (λ (t : List ℕ). t ++ boundary_text s.x) c.in_ok-push.ensures.appended)))))
    ∙ boundaries_are c.args.text.now (boundary_text s.x) (boundary_text s.y) (boundary_text s.z)
