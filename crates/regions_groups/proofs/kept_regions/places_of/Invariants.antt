use Rattle.std.proofs.Common.{◌≡◌, Some, drop, map, take}
use Rattle.regions_groups.specs.Kept.{latest_first, place_in}
use Rattle.regions_groups.specs.Regions.{first_unknown}
use Rattle.regions_groups.proofs.kept_regions.places_of.Given as goal

abbrev pub invariant-loop-name : goal.invariant-loop-name
invariant-loop-name l = record {
  placed : map (λ place. Some place) l.places ≡ map (place_in (latest_first l.kept)) (take l.name-index l.names);
  known : first_unknown (latest_first l.kept) (drop l.name-index l.names) ≡ first_unknown (latest_first l.kept) l.names;
}
