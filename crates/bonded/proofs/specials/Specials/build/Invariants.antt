use Rattle.std.proofs.Common.{◌≡◌, ℕ, is_some, take}
use Rattle.std.specs.BTreeMap.{get}
use Rattle.std.specs.List.{list_any}
use Rattle.std.specs.Ordering.{nat_cmp}
use Rattle.bonded.specs.Rows.{is_end, AreRows}
use Rattle.bonded.proofs.specials.Specials.build.Given as goal

abbrev pub invariant-loop-bond : goal.invariant-loop-bond
invariant-loop-bond l =
    AreRows l.links.neighbours l.weights l.rows
    × ((id : ℕ) → is_some (get nat_cmp l.rows id) ≡ list_any (is_end id) (take l.bond-index l.bonds))
