use Rattle.std.proofs.Common.{◌≡◌, ◌∙◌, ◌<◌, ◌++◌, ◌∷◌, [], List, ℕ, length, ap, codes, arith}
use Rattle.std.proofs.lemmas.Bool.Decides.{nat_tests}
use Rattle.data_text.specs.DataText.{atom_lines, atom_row, lines_text, style_text}
use Rattle.data_text.proofs.SectionLemmas.{section_is, section_none}
use Rattle.data_text.proofs.sections.push_atoms.Goals as goal

pub returns-then-is_empty : goal.returns-then-is_empty
unfolding atom_lines
returns-then-is_empty c =
    let none : length c.args.atoms.now ≡ 0 = grind (arith, nat_tests, c.is_empty.ensures, c.if-is_empty.true) in
    let no_row : length c.args.atoms.now ≡ 0 = omega (arith, none) in
    section_none (codes "Atoms # " ++ style_text c.args.style) (atom_row c.args.style) c.args.atoms.now c.args.text.now no_row

pub returns : goal.returns
unfolding atom_lines
returns c =
    let some : 0 < length c.args.atoms.now = grind (arith, nat_tests, c.is_empty.ensures, c.if-is_empty.false) in
    let some_row : 0 < length c.args.atoms.now = omega (arith, some) in
    section_is (codes "Atoms # " ++ style_text c.args.style) (atom_row c.args.style) c.args.atoms.now c.args.text.now c.push_title.new.text c.push_atom_rows.new.text some_row (c.in_ok-push_title.ensures ∙ ap (λ (title : List ℕ). c.args.text.now ++ lines_text ([] ∷ title ∷ [] ∷ [])) c.atoms_title.ensures) c.in_ok-push_atom_rows.ensures
