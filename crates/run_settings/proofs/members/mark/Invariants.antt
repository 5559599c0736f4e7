use Rattle.std.proofs.Common.{◌≡◌, ◌<◌, ◌≤◌, ◌||◌, ℕ, false, get_or}
use Rattle.meaning.specs.MassesGroups.{has_id}
use Rattle.run_settings.proofs.members.mark.Given as goal

abbrev pub invariant-loop-i : goal.invariant-loop-i
invariant-loop-i l = record {
  done : (k : ℕ) → k < l.i → get_or l.marks k false ≡ (get_or l.initial.marks k false || has_id l.range (get_or l.ids k 0));
  left : (k : ℕ) → l.i ≤ k → get_or l.marks k false ≡ get_or l.initial.marks k false;
}
