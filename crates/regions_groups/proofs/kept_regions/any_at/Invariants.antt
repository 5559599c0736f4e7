use Rattle.std.proofs.Common.{◌≡◌, drop}
use Rattle.std.specs.List.{list_any}
use Rattle.regions_groups.specs.Kept.{answer_at}
use Rattle.regions_groups.proofs.kept_regions.any_at.Given as goal

abbrev pub invariant-loop-place : goal.invariant-loop-place
invariant-loop-place l =
    list_any (answer_at l.known) (drop l.place-index l.places) ≡ list_any (answer_at l.known) l.places
