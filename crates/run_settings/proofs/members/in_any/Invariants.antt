use Rattle.std.proofs.Common.{◌≡◌, ℕ, filter, take}
use Rattle.std.specs.List.{list_any}
use Rattle.run_settings.specs.Members.{has_member}
use Rattle.run_settings.proofs.members.in_any.Given as goal

abbrev pub invariant-loop-name : goal.invariant-loop-name
invariant-loop-name l = l.kept ≡ filter (λ (id : ℕ). list_any (has_member l.groups id) (take l.name-index l.names)) l.ids
