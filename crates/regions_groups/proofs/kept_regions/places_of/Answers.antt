use Rattle.std.proofs.Common.{◌≡◌, ◌∙◌, ◌<◌, ap, length, ℕ, List, Some, None, map, true, false, arith}
use Rattle.std.proofs.lemmas.Grind.{common_steps}
use Rattle.regions_groups.specs.Kept.{latest_first, place_in}
use Rattle.regions_groups.specs.Regions.{is_there}
use Rattle.regions_groups.proofs.PlaceLemmas.{not_there, place_more, there}
use Rattle.regions_groups.proofs.kept_regions.places_of.Goals as goal

pub returns-in-None-clause-refused : goal.returns-in-None-clause-refused
returns-in-None-clause-refused c =
    let regions = latest_first c.args.kept.now in
    let none : place_in regions c.name-item.result ≡ None = cc in
    let absent : is_there regions c.name-item.result ≡ false = not_there regions c.name-item.result none in
    grind (arith, common_steps)

pub loop-name-preserved : goal.loop-name-preserved
loop-name-preserved c =
    let regions = latest_first c.args.kept.now in
    let some : place_in regions c.name-item.result ≡ Some c.in-Some.place = cc in
    let here : is_there regions c.name-item.result ≡ true = there regions c.name-item.result c.in-Some.place some in
    let within : c.loop-name.name-index < length c.args.names.now = omega arith in
    record {
      placed = ap (λ (ps : List ℕ). map (λ p. Some p) ps) c.in_ok-push-in-Some.ensures.appended
          ∙ place_more regions c.loop-name.places c.args.names.now c.loop-name.name-index c.in-Some.place c.name-item.result c.loop-name.invariant.placed within c.name-item.is some;
      known = grind (arith, common_steps);
    }
