use Rattle.std.proofs.Common.{◌≡◌, ◌++◌, drop, map}
use Rattle.data_text.specs.DataText.{lines_text, atom_row}
use Rattle.data_text.proofs.rows.push_atom_rows.Given as goal

abbrev pub invariant-loop-atom : goal.invariant-loop-atom
invariant-loop-atom l = l.text ++ lines_text (map (atom_row l.style) (drop l.atom-index l.atoms)) ≡ l.initial.text ++ lines_text (map (atom_row l.style) l.atoms)
