use Rattle.std.proofs.Common.{◌∙◌, ap}
use Rattle.std.specs.Prelude.{is_some}
use Rattle.regions_groups.specs.Kept.{latest_first}
use Rattle.regions_groups.proofs.PlaceLemmas.{place_there}
use Rattle.regions_groups.proofs.kept_regions.is_there.Goals as goal

pub returns : goal.returns
returns c = c.is_some.ensures ∙ ap is_some c.place_of.ensures ∙ place_there (latest_first c.args.kept.now) c.args.name.now
