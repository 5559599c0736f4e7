use Rattle.std.proofs.Common.{◌≡◌, drop}
use Rattle.regions_groups.specs.Groups.{place_from}
use Rattle.regions_groups.proofs.group_table.place_of.Given as goal

abbrev pub invariant-loop-i : goal.invariant-loop-i
invariant-loop-i l = place_from l.i (drop l.i l.groups) l.name ≡ place_from 0 l.groups l.name
