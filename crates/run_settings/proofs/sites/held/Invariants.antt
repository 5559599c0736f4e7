use Rattle.std.proofs.Common.{◌≡◌, ◌++◌, drop, filter}
use Rattle.regions_groups.specs.Regions.{holds}
use Rattle.run_settings.proofs.sites.held.Given as goal

abbrev pub invariant-loop-x : goal.invariant-loop-x
invariant-loop-x l =
    (l.test ≡ l.initial.test)
    × (l.kept ++ filter (holds l.test.regions l.test.name) (drop l.x-index l.points) ≡ filter (holds l.initial.test.regions l.initial.test.name) l.points)
