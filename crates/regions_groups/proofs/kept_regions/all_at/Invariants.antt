use Rattle.std.proofs.Common.{◌≡◌, drop}
use Rattle.std.specs.List.{list_all}
use Rattle.regions_groups.specs.Kept.{answer_at}
use Rattle.regions_groups.proofs.kept_regions.all_at.Given as goal

abbrev pub invariant-loop-place : goal.invariant-loop-place
invariant-loop-place l =
    list_all (answer_at l.known) (drop l.place-index l.places) ≡ list_all (answer_at l.known) l.places
