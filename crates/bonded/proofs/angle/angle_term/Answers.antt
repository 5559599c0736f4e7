use Rattle.std.proofs.Common.{◌*◌, ◌^◌, ℤ, w64, sym, ap, ◌∙◌, arith}
use Rattle.std.proofs.lemmas.Int.{to_z-of_z}
use Rattle.bonded.specs.Lengths.{length_within}
use Rattle.bonded.proofs.AngleLemmas.{energy_read, first_broken, first_out, outer_read, second_broken, second_out, term_is, virial_read}
use Rattle.bonded.proofs.SignLemmas.{two_fit, two_small}
use Rattle.bonded.proofs.angle.angle_term.Goals as goal

pub returns-in_default-clause-is : goal.returns-in_default-clause-is
returns-in_default-clause-is c =
    let rcmax_is = to_z-of_z w64 c.args.rcmax c.ranges.rcmax in
    let far1 = c.length_of.ensures.is ∙ ap (λ (z : ℤ). length_within z c.args.d1) rcmax_is in
    first_out c.args.d1 c.args.d2 c.args.k c.args.rcmax (sym c.in_default.is ∙ far1)

pub returns-in_default-length_of-clause-is : goal.returns-in_default-length_of-clause-is
returns-in_default-length_of-clause-is c =
    let rcmax_is = to_z-of_z w64 c.args.rcmax c.ranges.rcmax in
    let far2 = c.length_of-2.ensures.is ∙ ap (λ (z : ℤ). length_within z c.args.d2) rcmax_is in
    second_out c.args.d1 c.args.d2 c.args.k c.args.rcmax (sym c.in_default-length_of.is ∙ far2)

pub returns-in_default-force-clause-is : goal.returns-in_default-force-clause-is
returns-in_default-force-clause-is c =
    let rcmax_is = to_z-of_z w64 c.args.rcmax c.ranges.rcmax in
    let far1 = c.length_of.ensures.is ∙ ap (λ (z : ℤ). length_within z c.args.d1) rcmax_is in
    let far2 = c.length_of-2.ensures.is ∙ ap (λ (z : ℤ). length_within z c.args.d2) rcmax_is in
    let r1 = c.in-Some.r1 in
    let r2 = c.in-Some-length_of.r2 in
    let near1 = sym c.in-Some.is ∙ far1 in
    let near2 = sym c.in-Some-length_of.is ∙ far2 in
    let one = outer_read c.force.result c.args.k c.cosine-c.result r1 r2 c.args.d1 c.args.d2 c.ranges.k c.cosine-c.ensures.bound c.force.ensures.is in
    first_broken c.args.d1 c.args.d2 c.args.k c.args.rcmax r1 r2 c.cosine-c.result near1 near2 c.cosine-c.ensures.is (sym c.in_default-force.is ∙ one)

pub returns-in_default-force-2-clause-is : goal.returns-in_default-force-2-clause-is
returns-in_default-force-2-clause-is c =
    let rcmax_is = to_z-of_z w64 c.args.rcmax c.ranges.rcmax in
    let far1 = c.length_of.ensures.is ∙ ap (λ (z : ℤ). length_within z c.args.d1) rcmax_is in
    let far2 = c.length_of-2.ensures.is ∙ ap (λ (z : ℤ). length_within z c.args.d2) rcmax_is in
    let r1 = c.in-Some.r1 in
    let r2 = c.in-Some-length_of.r2 in
    let near1 = sym c.in-Some.is ∙ far1 in
    let near2 = sym c.in-Some-length_of.is ∙ far2 in
    let two = outer_read c.force-2.result c.args.k c.cosine-c.result r2 r1 c.args.d2 c.args.d1 c.ranges.k c.cosine-c.ensures.bound c.force-2.ensures.is in
    second_broken c.args.d1 c.args.d2 c.args.k c.args.rcmax r1 r2 c.cosine-c.result near1 near2 c.cosine-c.ensures.is (sym c.in_default-force-2.is ∙ two)

pub overflow_add-result : goal.overflow_add-result
overflow_add-result c = two_fit c.dot.result c.dot-2.result (3 * 2 ^ 70) c.dot.ensures.bound c.dot-2.ensures.bound (omega arith)

pub returns-clause-is : goal.returns-clause-is
returns-clause-is c =
    let rcmax_is = to_z-of_z w64 c.args.rcmax c.ranges.rcmax in
    let far1 = c.length_of.ensures.is ∙ ap (λ (z : ℤ). length_within z c.args.d1) rcmax_is in
    let far2 = c.length_of-2.ensures.is ∙ ap (λ (z : ℤ). length_within z c.args.d2) rcmax_is in
    let r1 = c.in-Some.r1 in
    let r2 = c.in-Some-length_of.r2 in
    let near1 = sym c.in-Some.is ∙ far1 in
    let near2 = sym c.in-Some-length_of.is ∙ far2 in
    let one = outer_read c.force.result c.args.k c.cosine-c.result r1 r2 c.args.d1 c.args.d2 c.ranges.k c.cosine-c.ensures.bound c.force.ensures.is in
    let two = outer_read c.force-2.result c.args.k c.cosine-c.result r2 r1 c.args.d2 c.args.d1 c.ranges.k c.cosine-c.ensures.bound c.force-2.ensures.is in
    term_is c.args.d1 c.args.d2 c.args.k c.args.rcmax r1 r2 c.cosine-c.result c.in-Some-force.fa c.in-Some-force-2.fc _ _ near1 near2 c.cosine-c.ensures.is
    (sym c.in-Some-force.is ∙ one) (sym c.in-Some-force-2.is ∙ two)
    (energy_read c.energy.result c.args.k c.cosine-c.result c.ranges.k c.cosine-c.ensures.bound c.energy.ensures.is c.energy.ensures.bound)
    (virial_read c.dot.result c.dot-2.result c.args.d1 c.args.d2 c.in-Some-force.fa c.in-Some-force-2.fc c.dot.ensures.bound c.dot-2.ensures.bound c.dot.ensures.is c.dot-2.ensures.is)

pub returns-clause-virial : goal.returns-clause-virial
returns-clause-virial c = two_small c.dot.result c.dot-2.result (3 * 2 ^ 70) c.dot.ensures.bound c.dot-2.ensures.bound (omega arith)
