use Rattle.std.proofs.Common.{◌≡◌, ◌≤◌, length, take}
use Rattle.regions_groups.specs.Kept.{latest_first}
use Rattle.regions_groups.specs.Regions.{block_of}
use Rattle.regions_groups.proofs.kept_regions.block_of.Given as goal

abbrev pub invariant-loop-n : goal.invariant-loop-n
invariant-loop-n l =
    (block_of (latest_first (take l.n l.kept)) l.name ≡ block_of (latest_first l.kept) l.name) × (l.n ≤ length l.kept)

abbrev pub decreases-loop-n : goal.decreases-loop-n
decreases-loop-n l = l.n
