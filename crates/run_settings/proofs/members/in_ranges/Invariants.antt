use Rattle.std.proofs.Common.{◌≡◌, ◌<◌, ◌||◌, ℕ, false, length, drop, get_or}
use Rattle.std.specs.List.{list_any}
use Rattle.command_words.specs.declared.ranges.IdRange.{IdRange}
use Rattle.meaning.specs.MassesGroups.{has_id}
use Rattle.run_settings.proofs.members.in_ranges.Given as goal

abbrev pub invariant-loop-range : goal.invariant-loop-range
invariant-loop-range l = record {
  room : length l.marks.items ≡ length l.ids;
  are : (k : ℕ) → k < length l.ids
      → (get_or l.marks.items k false || list_any (λ (r : IdRange). has_id r (get_or l.ids k 0)) (drop l.range-index l.ranges))
      ≡ list_any (λ (r : IdRange). has_id r (get_or l.ids k 0)) l.ranges;
}
