use Rattle.std.proofs.Common.{◌≡◌, ℤ, pos, ◌-ℤ◌, w64, sym, ap, ◌∙◌}
use Rattle.std.proofs.lemmas.Int.{to_z-of_z}
use Rattle.bonded.specs.Lengths.{length_within}
use Rattle.bonded.proofs.BondLemmas.{energy_read, force_read, out_of_reach, too_strong, term_is, virial_read}
use Rattle.bonded.proofs.bond.bond_term.Goals as goal

pub returns-in_default-clause-is : goal.returns-in_default-clause-is
returns-in_default-clause-is c =
    let far = c.length_of.ensures.is ∙ ap (λ (z : ℤ). length_within z c.args.d) (to_z-of_z w64 c.args.rcmax c.ranges.rcmax) in
    out_of_reach c.args.d c.args.k c.args.r0 c.args.rcmax (sym c.in_default.is ∙ far)

pub returns-in_default-force-clause-is : goal.returns-in_default-force-clause-is
returns-in_default-force-clause-is c =
    let far = c.length_of.ensures.is ∙ ap (λ (z : ℤ). length_within z c.args.d) (to_z-of_z w64 c.args.rcmax c.ranges.rcmax) in
    let gap_is : c.gap-gap.result ≡ c.args.r0 -ℤ pos c.in-Some.r = c.gap-gap.ensures.is ∙ ap (λ (z : ℤ). z -ℤ pos c.in-Some.r) (to_z-of_z w64 c.args.r0 c.ranges.r0) in
    let strong = force_read c.force.result c.args.k c.gap-gap.result c.args.r0 c.in-Some.r c.args.d c.ranges.k c.gap-gap.ensures.bound gap_is c.force.ensures.is in
    too_strong c.args.d c.args.k c.args.r0 c.args.rcmax c.in-Some.r (sym c.in-Some.is ∙ far) (sym c.in_default-force.is ∙ strong)

pub returns-clause-is : goal.returns-clause-is
returns-clause-is c =
    let far = c.length_of.ensures.is ∙ ap (λ (z : ℤ). length_within z c.args.d) (to_z-of_z w64 c.args.rcmax c.ranges.rcmax) in
    let gap_is : c.gap-gap.result ≡ c.args.r0 -ℤ pos c.in-Some.r = c.gap-gap.ensures.is ∙ ap (λ (z : ℤ). z -ℤ pos c.in-Some.r) (to_z-of_z w64 c.args.r0 c.ranges.r0) in
    let strong = force_read c.force.result c.args.k c.gap-gap.result c.args.r0 c.in-Some.r c.args.d c.ranges.k c.gap-gap.ensures.bound gap_is c.force.ensures.is in
    term_is c.args.d c.args.k c.args.r0 c.args.rcmax c.in-Some.r c.in-Some-force.f _ _ (sym c.in-Some.is ∙ far) (sym c.in-Some-force.is ∙ strong)
    (energy_read c.energy.result c.args.k c.gap-gap.result c.args.r0 c.in-Some.r c.ranges.k c.gap-gap.ensures.bound gap_is c.energy.ensures.is c.energy.ensures.bound)
    (virial_read c.dot.result c.args.d c.in-Some-force.f c.dot.ensures.bound c.dot.ensures.is)
