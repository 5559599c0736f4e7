use Rattle.std.proofs.Common.{◌≡◌, ℕ, Some, cond, take}
use Rattle.std.specs.BTreeMap.{get}
use Rattle.std.specs.Ordering.{nat_cmp}
use Rattle.bonded.specs.Rows.{has}
use Rattle.bonded.proofs.specials.put_all.Given as goal

abbrev pub invariant-loop-id : goal.invariant-loop-id
invariant-loop-id l = (other : ℕ) → get nat_cmp l.row other ≡ cond (has other (take l.id-index l.ids)) (Some l.weight) (get nat_cmp l.initial.row other)
