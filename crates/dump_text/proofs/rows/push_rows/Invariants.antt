use Rattle.std.proofs.Common.{◌≡◌, ◌++◌, drop}
use Rattle.box_geo.specs.Ids.{Rises}
use Rattle.dump_text.specs.Frame.{ids_of, members, rows_text}
use Rattle.dump_text.proofs.rows.push_rows.Given as goal

abbrev pub invariant-loop-atom : goal.invariant-loop-atom
invariant-loop-atom l = record {
  pushed : l.text ++ rows_text l.cell.sides l.masses l.columns (members l.rest (drop l.atom-index l.atoms))
      ≡ l.initial.text ++ rows_text l.cell.sides l.masses l.columns (members l.ids l.atoms);
  rising_ids : Rises l.rest;
  rising_atoms : Rises (ids_of (drop l.atom-index l.atoms));
}
