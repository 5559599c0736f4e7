use Rattle.std.proofs.Common.{◌≡◌, ◌∙◌, ℕ, List, IfOk, filter, subst, ap, get_or, false, arith}
use Rattle.std.specs.List.{list_any}
use Rattle.command_words.specs.declared.ranges.IdRange.{IdRange}
use Rattle.meaning.specs.MassesGroups.{has_id}
use Rattle.run_settings.specs.Members.{marked}
use Rattle.run_settings.proofs.MarkLemmas.{all_marked, marked_filter}
use Rattle.run_settings.proofs.members.in_ranges.Goals as goal

pub returns : goal.returns
returns c =
    let ids = c.args.ids.now in
    let ranges = c.args.ranges.now in
    let marks = c.loop-range.marks.items in
    let kept : marked marks ids ≡ filter (λ (id : ℕ). list_any (λ (r : IdRange). has_id r id) ranges) ids =
    marked_filter (λ (id : ℕ). list_any (λ (r : IdRange). has_id r id) ranges) marks ids c.loop-range.invariant.room
    (λ k w. all_marked (λ (r : IdRange). has_id r (get_or ids k 0)) (get_or marks k false) (list_any (λ (r : IdRange). has_id r (get_or ids k 0)) ranges) ranges c.loop-range.range-index (omega arith) (c.loop-range.invariant.are k w)) in
    subst (λ (l : List ℕ). IfOk c.marked.result (λ out. out ≡ l)) (ap (λ (m : List _). marked m ids) c.deref.ensures.value ∙ kept) c.marked.ensures
