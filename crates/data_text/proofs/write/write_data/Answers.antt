use Rattle.std.proofs.Common.{◌∙◌, ◌++◌, List, ℕ, ap}
use Rattle.data_text.specs.DataText.{angle_lines, atom_lines, bond_lines, data_lines, data_text, header_lines, lines_text, mass_lines, velocity_lines}
use Rattle.data_text.proofs.SectionLemmas.{more_lines}
use Rattle.data_text.proofs.write.write_data.Goals as goal

pub returns : goal.returns
unfolding data_text data_lines
returns c =
    let bonds = c.args.bonds.now in
    let angles = c.args.angles.now in
    let header = header_lines c.args.step c.args.sides.now c.args.masses.now c.args.atoms.now bonds angles c.args.style in
    let masses = mass_lines c.args.masses.now in
    let atoms = atom_lines c.args.style c.args.atoms.now in
    let velocities = velocity_lines c.args.atoms.now in
    let headed = c.in_ok-push_header.ensures ∙ ap (λ (t : List ℕ). t ++ lines_text header) c.new-text.ensures in
    let weighed = more_lines header masses _ _ c.in_ok-push_masses.ensures headed in
    let placed = more_lines (header ++ masses) atoms _ _ c.in_ok-push_atoms.ensures weighed in
    let moving = more_lines (header ++ masses ++ atoms) velocities _ _ c.in_ok-push_velocities.ensures placed in
    let bound = more_lines (header ++ masses ++ atoms ++ velocities) (bond_lines bonds) _ _ c.in_ok-push_bonds.ensures moving in
    more_lines (header ++ masses ++ atoms ++ velocities ++ bond_lines bonds) (angle_lines angles) _ _ c.in_ok-push_angles.ensures bound
