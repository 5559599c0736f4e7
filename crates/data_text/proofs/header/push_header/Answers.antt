use Rattle.std.proofs.Common.{◌∙◌, ◌++◌, ◌∷◌, [], List, ℕ, ap}
use Rattle.data_text.specs.DataText.{atom_counts, bonded_counts, box_lines, first_line, header_lines, lines_text}
use Rattle.data_text.proofs.HeaderLemmas.{header_is}
use Rattle.data_text.proofs.header.push_header.Goals as goal

pub returns : goal.returns
unfolding header_lines
returns c =
    let first = first_line c.args.step in
    let atoms = atom_counts c.args.masses.now c.args.atoms.now in
    let bonded = bonded_counts c.args.style c.args.bonds.now c.args.angles.now in
    let box = box_lines c.args.sides.now in
    c.in_ok-push_box.ensures
    ∙ ap (λ (t : List ℕ). t ++ lines_text ([] ∷ box)) (c.in_ok-push_bonded_counts.ensures
    ∙ ap (λ (t : List ℕ). t ++ lines_text bonded) (c.in_ok-push_atom_counts.ensures
    ∙ ap (λ (t : List ℕ). t ++ lines_text atoms) (c.in_ok-push.ensures.appended
    ∙ ap (λ (t : List ℕ). t ++ 10 ∷ []) c.in_ok-push_first.ensures)))
    ∙ header_is c.args.text.now first atoms bonded box
