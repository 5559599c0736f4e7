use Rattle.std.proofs.Common.{◌≡◌, flat_map, take}
use Rattle.bonded.specs.Rows.{neighbours}
use Rattle.bonded.proofs.links.Links.next.Given as goal

abbrev pub invariant-loop-id : goal.invariant-loop-id
invariant-loop-id l = l.found.items ≡ flat_map (neighbours l.self.neighbours) (take l.id-index l.ids)
