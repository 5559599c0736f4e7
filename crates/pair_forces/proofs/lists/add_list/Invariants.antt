use Rattle.std.proofs.Common.{◌≡◌, ◌+◌, All, flat_map, length, map, take}
use Rattle.box_geo.specs.declared.atoms.Atom.{Atom}
use Rattle.half_list.specs.Lists.{row_of}
use Rattle.neighbor_lists.specs.Pairs.{row_pairs}
use Rattle.rank_grid.specs.Owned.{numbered}
use Rattle.serial_step.specs.Forces.{field_of}
use Rattle.serial_step.specs.Pairs.{pair_at}
use Rattle.pair_forces.specs.Adds.{AreAdded, FitWords}
use Rattle.pair_forces.specs.Sums.{AreSums, AreSumsWithin}
use Rattle.pair_forces.proofs.lists.add_list.Given as goal

abbrev pub invariant-loop-k : goal.invariant-loop-k
invariant-loop-k g l = record {
  sums : (d : Atom) → AreSums (field_of l.pairs.pairs) l.cell.sides (map (pair_at l.atoms d) (flat_map (row_pairs (row_of l.list.rows)) (take l.k (numbered 0 l.list.own.items)))) l.sums.energy l.sums.virial l.sums.fault;
  forces : AreAdded (field_of l.pairs.pairs) l.cell.sides l.atoms (flat_map (row_pairs (row_of l.list.rows)) (take l.k (numbered 0 l.list.own.items))) l.fn.forces l.forces;
  words : All FitWords l.forces;
  bound : AreSumsWithin (length (flat_map (row_pairs (row_of l.list.rows)) (take l.k (numbered 0 l.list.own.items)))) l.sums;
  steps : l.steps ≡ l.fn.steps + length (flat_map (row_pairs (row_of l.list.rows)) (take l.k (numbered 0 l.list.own.items)));
}
