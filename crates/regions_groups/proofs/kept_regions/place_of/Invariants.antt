use Rattle.std.proofs.Common.{◌≡◌, ◌≤◌, length, take}
use Rattle.regions_groups.specs.Kept.{latest_first, place_in}
use Rattle.regions_groups.proofs.kept_regions.place_of.Given as goal

abbrev pub invariant-loop-n : goal.invariant-loop-n
invariant-loop-n l =
    (place_in (latest_first (take l.n l.kept)) l.name ≡ place_in (latest_first l.kept) l.name) × (l.n ≤ length l.kept)

abbrev pub decreases-loop-n : goal.decreases-loop-n
decreases-loop-n l = l.n
