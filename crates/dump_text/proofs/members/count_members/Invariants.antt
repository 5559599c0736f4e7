use Rattle.std.proofs.Common.{◌≡◌, ◌+◌, ◌≤◌, drop, length}
use Rattle.box_geo.specs.Ids.{Rises}
use Rattle.dump_text.specs.Frame.{ids_of, members}
use Rattle.dump_text.proofs.members.count_members.Given as goal

abbrev pub invariant-loop-atom : goal.invariant-loop-atom
invariant-loop-atom l = record {
  counted : l.count + length (members l.rest (drop l.atom-index l.atoms)) ≡ length (members l.ids l.atoms);
  few : l.count ≤ l.atom-index;
  rising_ids : Rises l.rest;
  rising_atoms : Rises (ids_of (drop l.atom-index l.atoms));
}
