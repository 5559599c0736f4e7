use Rattle.std.proofs.Common.{◌≡◌, drop}
use Rattle.regions_groups.specs.Groups.{members}
use Rattle.regions_groups.proofs.group_table.Groups.members.Given as goal

abbrev pub invariant-loop-group : goal.invariant-loop-group
invariant-loop-group l = members (drop l.group-index l.self) l.name ≡ members l.self l.name
