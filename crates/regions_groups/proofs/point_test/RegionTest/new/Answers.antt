use Rattle.std.proofs.Common.{◌∙◌, ap, sym, Some, ℕ, arith, Option}
use Rattle.std.specs.Option.{unwrap_or}
use Rattle.regions_groups.specs.Kept.{latest_first}
use Rattle.regions_groups.proofs.PlaceLemmas.{place_given}
use Rattle.regions_groups.proofs.point_test.RegionTest.new.Goals as goal

pub invariant_of-result : goal.invariant_of-result
invariant_of-result c =
    let place = c.unwrap_or.ensures ∙ ap (λ (p : Option ℕ). unwrap_or p 0) c.place_of.ensures in (
      c.requires.placed,
      place_given (latest_first c.args.kept.now) c.args.name.now c.requires.there ∙ sym (ap (λ (n : ℕ). Some n) place),
      omega (arith, c.in_ok-answers.ensures.len, c.in_ok-answers.answers.ok),
    )
