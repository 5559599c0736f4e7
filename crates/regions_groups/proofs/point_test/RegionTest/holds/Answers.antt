use Rattle.std.proofs.Common.{◌∙◌, ap, sym}
use Rattle.regions_groups.specs.Kept.{latest_first}
use Rattle.regions_groups.specs.Regions.{holds, Question}
use Rattle.regions_groups.proofs.PlaceLemmas.{told}
use Rattle.regions_groups.proofs.point_test.RegionTest.holds.Goals as goal

pub returns-clause-is : goal.returns-clause-is
returns-clause-is c =
    let t = told (latest_first c.self.inside.kept.now) c.self.inside.name.now c.args.x.now c.self.inside.place c.self.invariant.1 in
    c.answer.ensures ∙ sym t.is ∙ ap (λ (q : Question). holds q.regions q.name c.args.x.now) c.self.view_is
